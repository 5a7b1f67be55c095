-- What a reader expects of the exchange. Assumes nothing.
use Prim.Native.Nat.{ℕ, ◌<◌}
use mathlib.Core.List.{List}
use mathlib.Core.Path.{◌≡◌, refl, sym, ap, subst}
use native.Mathlib.Omega.{arith}
use lib.IntN.{ℤ}
use lib.ListN.{length}
use Rattle.std.specs.Prelude.{Err}
use Rattle.blocks.proofs.Swapped.{swap-twice, swap-stays}
use Rattle.blocks.specs.Apart.{Apart}
use Rattle.ec20.proofs.Exchanges.{exchange-length, exchanged-back}
use Rattle.ec20.proofs.Tests.{one_answer}
use Rattle.ec20.specs.Devices.{ec20}
use Rattle.ec20.specs.Exchange.{Exchange, swapped, exchanged, size_fault, judge_exchange, exchange_if, exchange_for, exchange_of}
use Rattle.ec20.specs.Move.{Block}
use Rattle.ec20.specs.Exchanged.{Exchanged}
use Rattle.ec20.specs.Exchanged.{Done, Refused}
use Rattle.ec20.specs.Judged.{Judged}
use Rattle.ec20.specs.Judged.{Fine}
use Rattle.exchange.proofs.Cases.{told, is-apart}

-- two results that meet the contract are equal: answer and table
pub one-exchange : (d : List ℤ) (b : Block) (q : ℕ) {r s : Exchange} → r ≡ exchange_of d b q → s ≡ exchange_of d b q → r ≡ s
one-exchange d b q = one_answer

-- a table exchanged twice is as it was
pub exchanged-twice : (b : Block) (q : ℕ) (d : List ℤ) → Apart ec20 b q → length d ≡ 8000 → exchanged b q (exchanged b q d) ≡ d
exchanged-twice b q d w size =
    exchanged-back (swapped b q) d (swap-twice ec20 b q w) (subst (λ (n : ℕ). (i : ℕ) → i < n → swapped b q i < n) (sym size) (swap-stays ec20 b q w))

-- a judgement asks of the table its length alone
judge-same : (d e : List ℤ) (b : Block) (q : ℕ) → length d ≡ length e → judge_exchange ec20 d b q ≡ judge_exchange ec20 e b q
unfolding judge_exchange size_fault
judge-same d e b q h = rw h refl

apart-answers : {A : Type 0} {m k : ℕ} → ◌≡◌ {A = Exchanged} (Refused m k) Done → A
apart-answers e = let z : ◌≡◌ {A = ℕ} 0 1 = cc in absurd (omega arith)

-- an exchange that is done, done again, is done, and the table is as it was before both
again : (d : List ℤ) (b : Block) (q : ℕ) (j : Judged) → j ≡ judge_exchange ec20 d b q → (exchange_if j d b q).answer ≡ Done
    → exchange_if (judge_exchange ec20 (exchange_if j d b q).words b q) (exchange_if j d b q).words b q ≡ told Done d
again d b q (Err r) e h = apart-answers h
again d b q Fine e h =
    rw (judge-same (exchanged b q d) d b q (exchange-length (swapped b q) d), sym e) (let h = is-apart d b q e refl in ap (told Done) (exchanged-twice b q d h.0 h.1))

pub exchange-twice : (d : List ℤ) (b : Block) (q : ℕ) → (exchange_of d b q).answer ≡ Done → exchange_of (exchange_of d b q).words b q ≡ told Done d
unfolding exchange_of exchange_for
exchange-twice d b q h = again d b q (judge_exchange ec20 d b q) refl h
