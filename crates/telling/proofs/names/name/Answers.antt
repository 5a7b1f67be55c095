use Rattle.std.proofs.Common.{[], ap, sym, ◌∙◌, get_or, rules, arith}
use native.Mathlib.Nat.{sub-zero}
use Rattle.telling.proofs.Nameless.{nameless}
use Rattle.telling.specs.Named.{name_of, names}
use Rattle.telling.proofs.names.name.Goals as goal

pub returns-in_default : goal.returns-in_default
unfolding name_of
returns-in_default c =
    let n = c.args.number in
    sym (ap (λ i. get_or names i []) (sub-zero n)) ∙ nameless names 0 n (omega arith) (search rules)
