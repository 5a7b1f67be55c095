-- Of an accepted file without comment each record passes, the last is END, and no other. Assumes nothing.
use Prim.Native.Nat.{ℕ, ◌+◌, ◌*◌, ◌≤◌, ◌<◌}
use mathlib.Core.Bool.{Bool, true, false}
use mathlib.Core.List.{List, ◌++◌}
use mathlib.Core.Path.{◌≡◌, refl, sym, ap, ◌∙◌}
use native.Mathlib.Decide.{dec_lt}
use native.Mathlib.Omega.{arith}
use lib.ListN.{length, take}
use lib.Seq.{length-take-le}
use borrow.Author.Tests.{eqb-true, eq-eqb, lt-ltb}
use Rattle.ec20.proofs.Laws.{no-fault}
use Rattle.ec20.proofs.NoFault.{record-fine, framed-some, accepted-framed, accepted-records, accepted-count}
use Rattle.ec20.proofs.Tests.{both, differ, is_false}
use Rattle.ec20.proofs.Written.{bare-length, bare-file}
use Rattle.ec20.specs.Code.{instr_by, instr_of, code_of, program_of}
use Rattle.ec20.specs.Devices.{Device}
use Rattle.ec20.specs.File.{record_from, framed, first_of, count_of, records_of}
use Rattle.ec20.specs.Mnemonics.{END}
use Rattle.ec20.specs.Operands.{is_known, fault_in}
use Rattle.ec20.specs.Table.{table, row_of}
use Rattle.ec20.specs.Written.{trailer_of}
use Rattle.ec20.specs.declared.Instr.TheVariants.{End}
use Rattle.ec20.specs.declared.Rec.{Rec}
use Rattle.refusals.proofs.Frame.{frame_right}
use Rattle.refusals.proofs.Keeps.{own-number}
use Rattle.refusals.proofs.Refused.{not-refused}
use Rattle.refusals.specs.Frame.{many_records}
use Rattle.refusals.specs.Keeps.{number_of}
use Rattle.refusals.specs.Structure.{Line6, early_end, last_not_end}
use Rattle.refusals.specs.Table.{record_at}
use Rattle.restored.proofs.Clean.{Clean}
use Rattle.restored.proofs.Records.{record-take}
use Rattle.restored.specs.Restored.{Sound}
use Rattle.torn.specs.Kept.{passes, is_end}

-- a record of the number END makes the instruction END
end-makes : (r : Rec) → is_end r ≡ true → instr_of r ≡ End
unfolding instr_by row_of table
end-makes r e = ap (λ (m : ℕ). instr_by (row_of m).form r) (eqb-true r.number END e)

-- and no other known one does
makes-end : (r : Rec) → (row_of r.number).known ≡ true → instr_of r ≡ End → is_end r ≡ true
makes-end r k e = eq-eqb _ _ (sym (own-number r k) ∙ ap number_of e)

module _ (v : Device) (f : List ℕ) (n : ℕ) (s : Sound v f n) where
  -- so many records it has
  programmed : (program_of f).count ≡ n
  programmed = accepted-count v f n s.steps s.accepted

  -- so its trailer says
  counted : count_of f ≡ n
  unfolding program_of
  counted = programmed

  -- its frame is right
  framed-right : framed f ≡ true
  framed-right = accepted-framed v f n s.steps s.accepted

  -- the records stand at the file's start
  at : (k : ℕ) → record_at f k ≡ record_from f (20 * k)
  at k = ap (record_from f) {x = first_of f + 20 * k} {y = 20 * k} (omega (arith, s.bare))

  -- none of them is refused by 2, 3 or 4
  fine : (k : ℕ) → k < n → fault_in v (record_at f k) ≡ 0
  fine k l =
      no-fault (λ k. fault_in v ((records_of f).at k)) 0 (count_of f) (accepted-records v f n s.steps s.accepted) k (omega arith) (omega (arith, counted))

  -- so the table has its number
  known : (k : ℕ) → k < n → (row_of (record_at f k).number).known ≡ true
  unfolding is_known
  known k l = (both _ _ (record-fine v (record_at f k) (fine k l)).0).0

  -- and it passes
  passing : (k : ℕ) → k < n → passes v (record_at f k) ≡ true
  unfolding passes
  passing k l = let h = record-fine v (record_at f k) (fine k l) in rw (h.0, h.1) refl

  -- the instruction of a record
  code : (k : ℕ) → k < n → (program_of f).code k ≡ instr_of (record_at f k)
  unfolding program_of code_of
  code k l = rw (lt-ltb k (count_of f) (omega (arith, counted))) refl

  -- none of them is refused by 6
  not-6 : (k : ℕ) → k < n → Line6 (program_of f) k → ⊥
  not-6 k l = ((not-refused v f n s.steps).0 s.accepted).5 k (omega (arith, counted))

  -- "END not last"
  inside : (k : ℕ) → k + 1 < n → is_end (record_at f k) ≡ false
  inside k l =
      is_false _ (λ e. not-6 k (omega arith) (early_end (code k (omega arith) ∙ end-makes (record_at f k) e) (omega (arith, programmed))))

  -- "last record not END"
  at_last : (k : ℕ) → k + 1 ≡ n → is_end (record_at f k) ≡ true
  at_last k l = go (is_end (record_at f k)) refl
    where
      go : (t : Bool) → is_end (record_at f k) ≡ t → t ≡ true
      go true e = refl
      go false e =
          absurd (not-6 k (omega arith) (last_not_end (omega (arith, programmed)) (λ q.
          differ (sym (makes-end (record_at f k) (known k (omega arith)) (sym (code k (omega arith)) ∙ q)) ∙ e))))

  -- so many bytes it has
  pub sound-length : length f ≡ 20 * n + 8
  sound-length = omega (arith, bare-length f s.bytes framed-right s.bare, counted)

  -- it has a record
  pub sound-some : 1 ≤ n
  sound-some = omega (arith, framed-some f framed-right, counted)

  -- and 2,000 at most
  pub sound-most : n ≤ 2000
  sound-most =
      elim (dec_lt 2000 (count_of f)) [ yes h ↦ absurd (frame_right f framed-right (many_records h)) | no h ↦ omega (arith, counted) ]

  -- each of its records passes
  pub sound-passes : (k : ℕ) → k < n → passes v (record_from f (20 * k)) ≡ true
  sound-passes k l = ap (passes v) (sym (at k)) ∙ passing k l

  -- none is END but the last
  pub sound-inner : (k : ℕ) → k + 1 < n → is_end (record_from f (20 * k)) ≡ false
  sound-inner k l = ap is_end (sym (at k)) ∙ inside k l

  -- its records make it
  pub sound-clean : Clean v (take (20 * n) f) n
  sound-clean =
      let is : (k : ℕ) → k < n → record_from (take (20 * n) f) (20 * k) ≡ record_from f (20 * k) = λ k l. record-take f (20 * n) (20 * k) (omega arith) in
      record {
        size = length-take-le (20 * n) f (omega (arith, sound-length));
        some = sound-some;
        most = sound-most;
        pass = λ k l. ap (passes v) (is k l) ∙ sound-passes k l;
        inner = λ k l. ap is_end (is k (omega arith)) ∙ sound-inner k l;
        last = λ k l. ap is_end (is k (omega arith) ∙ sym (at k)) ∙ at_last k l;
      }

  -- with their trailer
  pub sound-file : f ≡ take (20 * n) f ++ trailer_of 1 n
  sound-file =
      bare-file f s.bytes framed-right s.bare ∙ ap (λ (m : ℕ). take (20 * m) f ++ trailer_of 1 m) counted
