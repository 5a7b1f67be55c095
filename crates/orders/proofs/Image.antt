-- Files with the frame of f: what stands outside the records is f's, and record k is R k. There is one such file. An accepted move makes one of one.
-- Assumes nothing.
use Prim.Native.Nat.{ℕ, ◌+◌, ◌-◌, ◌*◌, ◌%◌, ◌≤◌, ◌<◌, ◌^◌}
use mathlib.Core.List.{List}
use mathlib.Core.Path.{◌≡◌, refl, sym, ap, subst, ◌∙◌}
use native.Mathlib.Decide.{dec_lt}
use native.Mathlib.Omega.{arith}
use lib.Dec.{ltb}
use lib.ListN.{length, get_or-eq_default}
use Rattle.ec20.proofs.MovedLaws.{moved_length, moved_at, comment-kept, trailer-kept}
use Rattle.ec20.proofs.Tests.{picked}
use Rattle.ec20.specs.declared.Rec.{Rec}
use Rattle.ec20.specs.Devices.{Device, within}
use Rattle.ec20.specs.File.{byte_at, first_of, count_of, record_from, records_of}
use Rattle.ec20.specs.Move.{Block, moved_in_operand, moved_in_record, moved_byte, moved_file}
use Rattle.demands.specs.Demand3.{OfBytes}
use Rattle.jobs.specs.Tasks.{Task}
use Rattle.moved.proofs.Accepted.{record-renamed}
use Rattle.moved.proofs.Bytes.{frame-whole, same_first, same_count}
use Rattle.moved.proofs.Taken.{placed}
use Rattle.moving.specs.Rename.{rename_rec}
use Rattle.orders.proofs.Files.{same-file}
use Rattle.orders.proofs.Went.{Went, found, file_by}
use Rattle.orders.proofs.Words.{exchange_of}

-- ---- the moved file is one of bytes

module _ (b : Block) (q : ℕ) (f : List ℕ) (byte : OfBytes f) where
  below-byte : (i first count : ℕ) → moved_byte b q f first count i < 256
  unfolding moved_byte moved_in_record moved_in_operand
  below-byte i first count =
      let Low : ℕ → Type 0 = λ (n : ℕ). n < 256 in
      picked Low (within first (20 * count) i) _ _
      (λ _. picked Low (ltb ((i - first) % 20) 2) _ _ (λ _. byte _)
      (λ _. picked Low (ltb (((i - first) % 20 - 2) % 6) 2) _ _ (λ _. byte _) (λ _. omega arith)))
      (λ _. byte i)

  pub moved-bytes : OfBytes (moved_file b q f)
  moved-bytes i =
      elim (dec_lt i (length f)) [
        | yes h ↦ rw (moved_at b q f i h) (below-byte i (first_of f) (count_of f))
        | no h ↦
            let past : length (moved_file b q f) ≤ i = omega (arith, moved_length b q f, h) in
            rw (get_or-eq_default (moved_file b q f) 0 past) (omega arith)
      ]

-- ---- a file with the frame of f

pub record Image (f g : List ℕ) (R : ℕ → Rec) : Type 0 where
  pub byte : OfBytes g
  pub size : length g ≡ length f
  pub first : first_of g ≡ first_of f
  pub count : count_of g ≡ count_of f
  pub before : (i : ℕ) → i < first_of f → i < length f → byte_at g i ≡ byte_at f i
  pub after : (i : ℕ) → first_of f + 20 * count_of f ≤ i → i < length f → byte_at g i ≡ byte_at f i
  pub at : (k : ℕ) → k < count_of f → (records_of g).at k ≡ R k

-- f itself is one
pub own : (f : List ℕ) → OfBytes f → Image f f (records_of f).at
own f byte =
    record { byte = byte; size = refl; first = refl; count = refl; before = λ _ _ _. refl; after = λ _ _ _. refl; at = λ _ _. refl }

-- there is one
pub images-same : {f g h : List ℕ} {R Q : ℕ → Rec} → Image f g R → Image f h Q → ((k : ℕ) → k < count_of f → R k ≡ Q k) → g ≡ h
images-same {f} {g} {h} x y e =
    same-file g h x.byte y.byte (first_of f) (count_of f) (x.size ∙ sym y.size)
    (λ i l m. let n : i < length f = subst (λ (k : ℕ). i < k) y.size m in x.before i l n ∙ sym (y.before i l n))
    (λ i l m. let n : i < length f = subst (λ (k : ℕ). i < k) y.size m in x.after i l n ∙ sym (y.after i l n))
    (λ k l.
    ap (λ (n : ℕ). record_from g (n + 20 * k)) (sym x.first)
    ∙ x.at k l ∙ e k l ∙ sym (y.at k l)
    ∙ ap (λ (n : ℕ). record_from h (n + 20 * k)) y.first)

-- and an accepted move makes the next: with each record renamed
pub image-moved : {v : Device} {f g : List ℕ} {R : ℕ → Rec} → v.words ≤ 2 ^ 32 → Image f g R → (t : Task) → Went v g t
    → Image f (file_by t g) (λ k. rename_rec (exchange_of t) (R k))
image-moved {v} {f} {g} {R} few x t w =
    let b : Block = t.block in
    let q : ℕ = t.place in
    let whole : first_of g + 20 * count_of g + 8 ≡ length g = frame-whole g (found w).frame in
    record {
      byte = moved-bytes b q g x.byte;
      size = moved_length b q g ∙ x.size;
      first = same_first b q g whole ∙ x.first;
      count = same_count b q g whole ∙ x.count;
      before = λ i l m.
          moved_at b q g i (omega (arith, x.size, m)) ∙ comment-kept b q g (first_of g) (count_of g) i (omega (arith, x.first, l)) ∙ x.before i l m;
      after = λ i l m.
          moved_at b q g i (omega (arith, x.size, m))
          ∙ trailer-kept b q g (first_of g) (count_of g) i (omega (arith, x.first, x.count, l))
          ∙ x.after i l m;
      at = λ k l.
          record-renamed v g b q x.byte few (found w).frame (placed (found w)) k (omega (arith, x.count, l)) ∙ ap (rename_rec (exchange_of t)) (x.at k l);
    }
