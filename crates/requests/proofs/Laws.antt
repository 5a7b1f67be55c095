-- What the parts of the answer come to. Assumes nothing.
use Prim.Native.Nat.{ℕ, ◌+◌, ◌*◌, ◌/◌, ◌%◌, ◌≤◌, ◌<◌}
use mathlib.Core.Bool.{Bool, true, false, ◌&&◌, ◌||◌}
use mathlib.Core.List.{List, [], ◌∷◌, ◌++◌}
use mathlib.Core.Path.{◌≡◌, refl, sym, ap, ◌∙◌}
use native.Mathlib.Omega.{arith}
use lib.Dec.{leb, eqb}
use lib.IntN.{ℤ}
use lib.ListN.{length, take, drop, set, length-append, length-drop}
use lib.Seq.{take-suc, length-take-le}
use borrow.Author.Tests.{leb-true, eqb-true, eq-eqb, ne_eqb}
use Rattle.ec20.proofs.NoFault.{passed, then-fine}
use Rattle.ec20.proofs.Tests.{both, each}
use Rattle.ec20.specs.Judged.{Judged}
use Rattle.ec20.specs.Judged.{Fine, Fault}
use Rattle.ec20.specs.Basics.{one_if}
use Rattle.ec20.specs.Bits.{with_bit}
use Rattle.ec20.specs.File.{byte_at}
use Rattle.ec20.proofs.BufferLaws.{append_assoc, sent-none, sent-more, sent-take, sent-over}
use Rattle.modbus.proofs.Good.{four, eight-bytes, read-coils, read-registers, write-coils, write-registers}
use Rattle.modbus.proofs.Lengths.{coils-told, registers-told}
use Rattle.modbus.specs.Answered.{Silent, Reply}
use Rattle.modbus.specs.Answer.{Answer, tables_fault, call_fault, judge_answer, replied, heard, answer_of}
use Rattle.ec20.specs.Buffer.{over, sent}
use Rattle.modbus.specs.Crc.{crc_of, with_crc}
use Rattle.modbus.specs.Exceptions.{value_on, bytes_of, exception_of}
use Rattle.modbus.specs.Frame.{station_of, function_of, address_of, quantity_of, byte_count_of, length_fits, crc_fits, is_broadcast, is_heard}
use Rattle.modbus.specs.Replies.{coil_bytes, register_bytes, coils_reply, registers_reply, reply_to, exception_to}
use Rattle.modbus.specs.Writes.{coils_taken, word_of, registers_taken, coils_after, registers_after}
use Rattle.std.specs.Prelude.{Some, Err}
use Rattle.ec20.specs.declared.Refusal.{Refusal}
use Rattle.frames.specs.Exception.{code_of}
use Rattle.frames.specs.declared.Exception.{Exception}
use Rattle.frames.specs.declared.Exception.TheVariants.{Function, Range, Quantity}
use Rattle.requests.specs.Fit.{Fit}

-- ---- hearing

module _ (own : ℕ) (f : List ℕ) (s n c : ℕ) (t : Bool) (es : s ≡ byte_at f 0) (en : n ≡ byte_at f 1) (ec : c ≡ byte_at f 6)
    (et : t ≡ length_fits n c (length f)) where
  pub heard-as : is_heard own f ≡ ((eqb s own || eqb s 0) && t && crc_fits f)
  unfolding is_heard
  heard-as = rw (et, es, en, ec) refl

  pub not-heard : (eqb s own || eqb s 0) && t ≡ false → false ≡ is_heard own f
  not-heard h = sym (heard-as ∙ ap (λ (x : Bool). x && crc_fits f) h)

  -- a frame whose length fits has a CRC to look at
  pub crc-there : (eqb s own || eqb s 0) && t ≡ true → 2 ≤ length f
  crc-there h =
      let l : 4 ≤ length f = four n c (length f) (sym et ∙ (both (eqb s own || eqb s 0) t h).1) in
      omega arith

  pub heard-by-crc : (eqb s own || eqb s 0) && t ≡ true → (r : Bool) → r ≡ crc_fits f → r ≡ is_heard own f
  heard-by-crc h r e = e ∙ sym (heard-as ∙ ap (λ (x : Bool). x && crc_fits f) h)

-- ---- replies

-- the first bytes of the request
pub repeated : (f b : List ℕ) (n : ℕ) → n ≤ length f → take n f ++ drop n b ≡ sent (take n f) b
unfolding sent
repeated f b n l = ap (λ (k : ℕ). take n f ++ drop k b) (sym (length-take-le n f l))

-- an exception is three bytes
pub three-bytes : (b : List ℕ) (x y z : ℕ) → 256 ≤ length b → set (set (set b 0 x) 1 y) 2 z ≡ sent (x ∷ y ∷ z ∷ []) b
three-bytes b x y z l =
    let one : set b 0 x ≡ sent (x ∷ []) b = ap (λ (t : List ℕ). set t 0 x) (sym (sent-none b)) ∙ sent-more [] b x 0 refl (omega arith) in
    let two : set (set b 0 x) 1 y ≡ sent (x ∷ y ∷ []) b = ap (λ (t : List ℕ). set t 1 y) one ∙ sent-more (x ∷ []) b y 1 refl (omega arith) in
    ap (λ (t : List ℕ). set t 2 z) two ∙ sent-more (x ∷ y ∷ []) b z 2 refl (omega arith)

-- two bytes of the request, a count, and the data from byte 3 on
module _ (f b : List ℕ) (k : ℕ) (two : 2 ≤ length f) where
  first_two : take 2 f ≡ byte_at f 0 ∷ byte_at f 1 ∷ []
  first_two = take-suc f 1 0 (omega arith) ∙ ap (λ (t : List ℕ). t ++ (byte_at f 1 ∷ [])) (take-suc f 0 0 (omega arith))

  pub begun : 256 ≤ length b → set (set (set b 0 (byte_at f 0)) 1 (byte_at f 1)) 2 k ≡ sent (take 2 f ++ (k ∷ [])) b
  begun l = three-bytes b (byte_at f 0) (byte_at f 1) k l ∙ ap (λ (t : List ℕ). sent (t ++ (k ∷ [])) b) (sym first_two)

  pub with-data : (s r u : List ℕ) → r ≡ sent (take 2 f ++ (k ∷ [])) b → u ≡ over 3 s r → u ≡ sent (take 2 f ++ (k ∷ s)) b
  with-data s r u e g =
      g ∙ ap (over 3 s) e
      ∙ sent-over (take 2 f ++ (k ∷ [])) s b 3 (length-append (take 2 f) (k ∷ []) ∙ ap (λ (n : ℕ). n + 1) (length-take-le 2 f two))
      ∙ ap (λ (t : List ℕ). sent t b) (append_assoc (take 2 f) (k ∷ []) s)

  pub data-length : (s : List ℕ) → 3 + length s ≡ length (take 2 f ++ (k ∷ s))
  data-length s = sym (length-append (take 2 f) (k ∷ s) ∙ omega (arith, length-take-le 2 f two))

-- the replies of 1 and 3, whose numbers are those of the request
module _ (f : List ℕ) (fit : Fit f) (a q : ℕ) (ea : a ≡ address_of f) (eq : q ≡ quantity_of f) where
  pub two-there : 2 ≤ length f
  two-there = omega (arith, eight-bytes f fit.good fit.fits)

  pub room-1 : function_of f ≡ 1 → (a + q ≤ 2000) × (q ≤ 2000)
  room-1 e = rw (ea, eq) (read-coils f fit.good e)

  pub room-3 : function_of f ≡ 3 → (a + q ≤ 8000) × (q ≤ 125)
  room-3 e = rw (ea, eq) (read-registers f fit.good e)

  pub coils-sent : (m b r u : List ℕ) → r ≡ sent (take 2 f ++ (bytes_of q ∷ [])) b → u ≡ over 3 (coil_bytes m a q (bytes_of q)) r → u ≡ sent (coils_reply f m) b
  unfolding coils_reply
  coils-sent m b r u e g = with-data f b (bytes_of q) two-there (coil_bytes m a q (bytes_of q)) r u e g ∙ rw (ea, eq) refl

  pub coils-length : (m : List ℕ) → 3 + bytes_of q ≡ length (coils_reply f m)
  unfolding coils_reply
  coils-length m =
      rw eq
      (ap (λ (n : ℕ). 3 + n) (sym (coils-told m (address_of f) (quantity_of f) (bytes_of (quantity_of f))))
      ∙ data-length f [] (bytes_of (quantity_of f)) two-there (coil_bytes m (address_of f) (quantity_of f) (bytes_of (quantity_of f))))

  pub registers-sent : (d : List ℤ) (b r u : List ℕ) → r ≡ sent (take 2 f ++ (2 * q ∷ [])) b → u ≡ over 3 (register_bytes d a q) r → u ≡ sent (registers_reply f d) b
  unfolding registers_reply
  registers-sent d b r u e g = with-data f b (2 * q) two-there (register_bytes d a q) r u e g ∙ rw (ea, eq) refl

  pub registers-length : (d : List ℤ) → 3 + 2 * q ≡ length (registers_reply f d)
  unfolding registers_reply
  registers-length d =
      rw eq
      (ap (λ (n : ℕ). 3 + n) (sym (registers-told d (address_of f) (quantity_of f)))
      ∙ data-length f [] (2 * quantity_of f) two-there (register_bytes d (address_of f) (quantity_of f)))

-- which reply it is
module _ (f m : List ℕ) (d : List ℤ) (n : ℕ) (en : n ≡ function_of f) where
  pub reply-1 : n ≡ 1 → reply_to f m d ≡ coils_reply f m
  unfolding reply_to
  reply-1 e = rw (sym en ∙ e) refl

  pub reply-3 : n ≡ 3 → reply_to f m d ≡ registers_reply f d
  unfolding reply_to
  reply-3 e = rw (sym en ∙ e) refl

  pub reply-else : (n ≡ 1 → ⊥) → (n ≡ 3 → ⊥) → reply_to f m d ≡ take 6 f
  unfolding reply_to
  reply-else x y = rw (ne_eqb (function_of f) 1 (λ e. x (en ∙ e)), ne_eqb (function_of f) 3 (λ e. y (en ∙ e))) refl

-- the bytes s stand in the buffer, so many as are told
abbrev pub Told : List ℕ → List ℕ → ℕ → List ℕ → Type 0
Told s b r u = (u ≡ sent s b) × (r ≡ length s) × (r < 254)

pub told-as : (s t b : List ℕ) (r : ℕ) (u : List ℕ) → t ≡ s → Told s b r u → Told t b r u
told-as s t b r u e h = rw e h

-- the CRC after the bytes s
module _ (s b r : List ℕ) (n c : ℕ) (e : n ≡ length s) (g : r ≡ sent s b) (h : c ≡ crc_of (take n r)) where
  crc-is : c ≡ crc_of s
  crc-is = h ∙ ap (λ (t : List ℕ). crc_of t) (ap (take n) g ∙ sent-take s b n (sym e))

  room : n + 2 ≤ length r → n + 2 ≤ length b
  unfolding sent
  room l = omega (arith, ap (λ (t : List ℕ). length t) g, length-append s (drop (length s) b), length-drop (length s) b)

  pub closed : n + 2 ≤ length r → set (set r n (c % 256)) (n + 1) (c / 256) ≡ sent (with_crc s) b
  unfolding with_crc
  closed k =
      let l : n + 2 ≤ length b = room k in
      ap (λ (t : List ℕ). set (set t n (c % 256)) (n + 1) (c / 256)) g
      ∙ ap (λ (t : List ℕ). set t (n + 1) (c / 256)) (sent-more s b (c % 256) n e (omega arith))
      ∙ sent-more (s ++ (c % 256 ∷ [])) b (c / 256) (n + 1) (sym (length-append s (c % 256 ∷ []) ∙ omega arith)) (omega arith)
      ∙ ap (λ (t : List ℕ). sent t b) (append_assoc s (c % 256 ∷ []) (c / 256 ∷ []))
      ∙ ap (λ (x : ℕ). sent (s ++ (x % 256 ∷ x / 256 ∷ [])) b) crc-is

  pub closed-length : n + 2 ≡ length (with_crc s)
  unfolding with_crc
  closed-length = sym (length-append s (crc_of s % 256 ∷ crc_of s / 256 ∷ []) ∙ omega arith)

-- ---- 9, then 16

module _ (own : ℕ) (m : List ℕ) (d : List ℤ) (b : List ℕ) where
  abbrev Tables : Bool
  Tables = eqb (length m) 250 && eqb (length d) 8000

  abbrev Call : Bool
  Call = leb 1 own && leb own 247 && leb 256 (length b)

  pub by-9 : Tables ≡ false → Fault 9 0 ≡ judge_answer own m d b
  unfolding judge_answer tables_fault
  by-9 h = rw h refl

  pub by_16 : Tables ≡ true → Call ≡ false → Fault 16 0 ≡ judge_answer own m d b
  unfolding judge_answer tables_fault call_fault
  by_16 h g = rw (h, g) refl

  pub fine : Tables ≡ true → Call ≡ true → Fine ≡ judge_answer own m d b
  unfolding judge_answer tables_fault call_fault
  fine h g = rw (h, g) refl

-- ---- writes

module _ (f : List ℕ) (n a q : ℕ) (en : n ≡ function_of f) (ea : a ≡ address_of f) (eq : q ≡ quantity_of f) where
  is : (k : ℕ) → n ≡ k → function_of f ≡ k
  is k e = sym en ∙ e

  pub wrote-5 : (m u : List ℕ) (v : ℕ) → n ≡ 5 → v ≡ one_if (eqb q value_on) → u ≡ with_bit m a v → u ≡ coils_after f m
  unfolding coils_after
  wrote-5 m u v e ev eu = eu ∙ rw (ev, ea, eq, is 5 e) refl

  pub wrote-15 : (m u : List ℕ) → n ≡ 15 → u ≡ coils_taken m a f q → u ≡ coils_after f m
  unfolding coils_after
  wrote-15 m u e eu = eu ∙ rw (ea, eq, is 15 e) refl

  pub wrote-no-coil : (m : List ℕ) → (n ≡ 5 → ⊥) → (n ≡ 15 → ⊥) → m ≡ coils_after f m
  unfolding coils_after
  wrote-no-coil m x y = rw (ne_eqb (function_of f) 5 (λ e. x (en ∙ e)), ne_eqb (function_of f) 15 (λ e. y (en ∙ e))) refl

  pub wrote-6 : (d u : List ℤ) (v : ℤ) → n ≡ 6 → v ≡ word_of q → u ≡ set d a v → u ≡ registers_after f d
  unfolding registers_after
  wrote-6 d u v e ev eu = eu ∙ rw (ev, ea, eq, is 6 e) refl

  pub wrote-16 : (d u : List ℤ) → n ≡ 16 → u ≡ registers_taken d a f q → u ≡ registers_after f d
  unfolding registers_after
  wrote-16 d u e eu = eu ∙ rw (ea, eq, is 16 e) refl

  pub wrote-no-register : (d : List ℤ) → (n ≡ 6 → ⊥) → (n ≡ 16 → ⊥) → d ≡ registers_after f d
  unfolding registers_after
  wrote-no-register d x y = rw (ne_eqb (function_of f) 6 (λ e. x (en ∙ e)), ne_eqb (function_of f) 16 (λ e. y (en ∙ e))) refl

  module _ (fit : Fit f) where
    pub room-15 : n ≡ 15 → (a + q ≤ 2000) × (7 + bytes_of q ≤ length f)
    room-15 e = rw (ea, eq) (write-coils f fit.good fit.fits (is 15 e))

    pub room-16 : n ≡ 16 → (a + q ≤ 8000) × (7 + 2 * q ≤ length f)
    room-16 e = rw (ea, eq) (write-registers f fit.good fit.fits (is 16 e))

-- ---- a frame that is heard

-- an exception has a number
pub some-code : (e : Exception) → code_of (Some e) ≡ 0 → ⊥
some-code Function h = omega (arith, h)
some-code Range h = omega (arith, h)
some-code Quantity h = omega (arith, h)

module _ (f m : List ℕ) (d : List ℤ) (b : List ℕ) (t : Bool) (et : t ≡ is_broadcast f) where
  module _ (good : exception_of f ≡ 0) (u : List ℕ) (v : List ℤ) (eu : u ≡ coils_after f m) (ev : v ≡ registers_after f d) where
    -- a good broadcast
    pub heard_all : t ≡ true → record { answer = Silent; m = u; d = v; reply = b } ≡ heard f m d b
    unfolding heard
    heard_all e = rw (sym et ∙ e, eq-eqb _ _ good, eu, ev) refl

    -- a good request and its reply
    pub heard-good : t ≡ false → (k : ℕ) (w x : List ℕ) (r : ℕ) → Told (reply_to f m d) b k w
        → ((s c : List ℕ) → k ≡ length s → w ≡ sent s c → (r ≡ length (with_crc s)) × (x ≡ sent (with_crc s) c))
        → record { answer = Reply r; m = u; d = v; reply = x } ≡ heard f m d b
    unfolding heard replied
    heard-good e k w x r h c =
        let q = c (reply_to f m d) b h.1 h.0 in
        rw (sym et ∙ e, eq-eqb _ _ good, eu, ev, q.0, q.1) refl

  module _ (k : ℕ) (ek : k ≡ exception_of f) (bad : k ≡ 0 → ⊥) where
    wrong : eqb (exception_of f) 0 ≡ false
    wrong = ne_eqb (exception_of f) 0 (λ e. bad (ek ∙ e))

    -- a broadcast with an exception is ignored
    pub heard-ignored : t ≡ true → record { answer = Silent; m = m; d = d; reply = b } ≡ heard f m d b
    unfolding heard
    heard-ignored e = rw (sym et ∙ e, wrong) refl

    -- an exception
    pub heard-exception : t ≡ false → (j : ℕ) (w x : List ℕ) (r : ℕ) → w ≡ sent (exception_to f k) b → j ≡ 3
        → ((s c : List ℕ) → j ≡ length s → w ≡ sent s c → (r ≡ length (with_crc s)) × (x ≡ sent (with_crc s) c))
        → record { answer = Reply r; m = m; d = d; reply = x } ≡ heard f m d b
    unfolding heard replied exception_to
    heard-exception e j w x r h l c =
        let q = c (exception_to f k) b l h in
        rw (sym et ∙ e, wrong, q.0, q.1, ek) refl

-- ---- the whole

module _ (own : ℕ) (f m : List ℕ) (d : List ℤ) (b : List ℕ) where
  pub refused : (j : Judged) (r : Refusal) → j ≡ judge_answer own m d b → j ≡ Err r → record { answer = Err r; m = m; d = d; reply = b } ≡ answer_of own f m d b
  unfolding answer_of
  refused j r e q = rw (sym e ∙ q) refl

  module _ (j : Judged) (ej : j ≡ judge_answer own m d b) (ok : j ≡ Fine) (t : Bool) (et : t ≡ is_heard own f) where
    pub unheard : t ≡ false → record { answer = Silent; m = m; d = d; reply = b } ≡ answer_of own f m d b
    unfolding answer_of
    unheard e = rw (sym ej ∙ ok, sym et ∙ e) refl

    pub answered : t ≡ true → (a : Answer) → a ≡ heard f m d b → a ≡ answer_of own f m d b
    unfolding answer_of
    answered e a h = h ∙ rw (sym ej ∙ ok, sym et ∙ e) refl

    -- what the sizes are, and that the length fits
    pub ready : t ≡ true
        → (length_fits (function_of f) (byte_count_of f) (length f) ≡ true) × (length m ≡ 250) × (length d ≡ 8000) × (256 ≤ length b)
    unfolding is_heard judge_answer tables_fault call_fault
    ready e =
        let h = each (eqb (station_of f) own || is_broadcast f) (length_fits (function_of f) (byte_count_of f) (length f)) (crc_fits f) (sym et ∙ e) in
        let g = then-fine (tables_fault m d) (call_fault own b) (sym ej ∙ ok) in
        let x = both (eqb (length m) 250) (eqb (length d) 8000) (passed (Tables own m d b) 9 0 g.0) in
        let y = both (leb 1 own && leb own 247) (leb 256 (length b)) (passed (Call own m d b) 16 0 g.1) in
        (h.1, eqb-true _ _ x.0, eqb-true _ _ x.1, leb-true _ _ y.1)
