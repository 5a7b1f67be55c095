use Rattle.std.proofs.Common.{◌≡◌, ℕ, ◌+◌, ◌-◌, ◌*◌, get_or, rules, arith, subst}
use Rattle.std.proofs.lemmas.Grind.{common_steps}
use Rattle.calls.proofs.Digits.{Ahead, ahead_none, ahead_more, not_digit, grown-large, no-digits, all_read}
use Rattle.calls.proofs.numbers.parsed.Goals as goal

pub returns-then-is_empty : goal.returns-then-is_empty
returns-then-is_empty c = no-digits c.args.text.now (search rules)

pub loop-byte-init : goal.loop-byte-init
loop-byte-init c = (omega arith, ahead_none _)

pub returns-in_err-checked_mul : goal.returns-in_err-checked_mul
returns-in_err-checked_mul c =
    let l = c.loop-byte in
    let h = grown-large c.args.text.now l.byte-index l.n l.invariant.1 c.loop-byte-test.true in
    grind (arith, common_steps, h)

pub returns-in_err-digit : goal.returns-in_err-digit
returns-in_err-digit c =
    let l = c.loop-byte in
    let h = not_digit c.args.text.now l.byte-index l.n l.invariant.1 c.loop-byte-test.true in
    grind (arith, common_steps, h)

pub returns-in_err-n : goal.returns-in_err-n
returns-in_err-n c =
    let l = c.loop-byte in
    let h = grown-large c.args.text.now l.byte-index l.n l.invariant.1 c.loop-byte-test.true in
    grind (arith, common_steps, h)

pub loop-byte-preserved : goal.loop-byte-preserved
loop-byte-preserved c =
    let l = c.loop-byte in
    let h = ahead_more c.args.text.now l.byte-index l.n l.invariant.1 c.loop-byte-test.true in
    let m = c.in_ok-checked_mul.ensures in
    let d = c.in_ok-digit.ensures in
    let n = c.in_ok-n.ensures in
    let e : l.n * 10 + (get_or c.args.text.now l.byte-index 0 - 48) ≡ c.in_ok-n.n = omega (arith, m.1, d.1, n.1) in
    (omega (arith, n.0, n.1), subst (λ (k : ℕ). Ahead c.args.text.now (l.byte-index + 1) k) e (h d.0))

pub returns : goal.returns
returns c =
    let l = c.loop-byte in
    all_read c.args.text.now l.byte-index l.n l.invariant.1 c.loop-byte-test.false (search rules) l.invariant.0
