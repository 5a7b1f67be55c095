use mathlib.Core.Path.{sym, ap, ◌∙◌}
use Prim.Native.Nat.{ℕ}
use native.Mathlib.Omega.{arith}
use lib.Dec.{eqb}
use borrow.Author.Tests.{eq-eqb, ne_eqb}
use Rattle.modbus.proofs.Good.{four}
use Rattle.requests.proofs.Laws.{some-code, heard-ignored, heard-exception}
use Rattle.requests.proofs.heard.Goals as goal

pub good-requires : goal.good-requires
good-requires c = (
  c.byte_at-n.ensures.0,
  ap (λ (s : ℕ). eqb s 0) c.byte_at-all.ensures.0,
  record { fits = c.requires.0; good = sym c.in_default.ensures },
  c.requires.1,
  c.requires.2,
  c.requires.3,
)

pub returns-in_default : goal.returns-in_default
returns-in_default c = c.good.ensures

pub returns-then-all : goal.returns-then-all
returns-then-all c =
    heard-ignored c.args.f.now c.args.m.now c.args.d.now c.args.reply.now _ (ap (λ (s : ℕ). eqb s 0) c.byte_at-all.ensures.0) _ c.in-Some.ensures
    (some-code c.in-Some.e) (eq-eqb _ _ c.if-all.true)

pub exception_told-k-requires : goal.exception_told-k-requires
exception_told-k-requires c =
    let l = four _ _ _ c.requires.0 in
    (omega (arith, l), c.requires.3)

pub close-requires : goal.close-requires
close-requires c =
    let t = c.exception_told-k in
    omega (arith, t.ensures.1, t.auto.reply, c.requires.3)

pub returns : goal.returns
returns c =
    let t = c.exception_told-k in
    heard-exception c.args.f.now c.args.m.now c.args.d.now c.args.reply.now _ (ap (λ (s : ℕ). eqb s 0) c.byte_at-all.ensures.0) _ (c.code.ensures.0 ∙ c.in-Some.ensures)
    (λ h. some-code c.in-Some.e (sym c.code.ensures.0 ∙ h)) (ne_eqb _ _ c.if-all.false) _ _ _ _ t.ensures.0 t.ensures.1 c.close.ensures
