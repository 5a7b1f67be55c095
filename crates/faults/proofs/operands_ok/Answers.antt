use mathlib.Core.Path.{◌≡◌, sym, ◌∙◌}
use Rattle.ec20.specs.Devices.{ec20}
use Rattle.ec20.specs.Operands.{allowed, operands_ok}
use Rattle.faults.proofs.Roles.{unused}
use Rattle.faults.proofs.operands_ok.Goals.{in-Unused, in_default, in-Unused-role, in_default-role}
use Rattle.faults.proofs.operands_ok.Goals as goal

pub returns-in_default-role-2 : goal.returns-in_default-role-2
unfolding operands_ok
returns-in_default-role-2 c =
    let one : c.match-p.one ≡ allowed ec20 c.args.w.first c.args.r.first =
    elim c.match-p.branch [
      | in-Unused w ↦ w.one-is ∙ w.is_unused-one.ensures ∙ unused _ _ w.in-Unused.is
      | in_default w ↦ w.one-is ∙ w.is_allowed-one.ensures
    ] in
    let two : c.match-p-2.two ≡ allowed ec20 c.args.w.second c.args.r.second =
    elim c.match-p-2.branch [
      | in-Unused-role w ↦ w.two-is ∙ w.is_unused-two.ensures ∙ unused _ _ w.in-Unused-role.is
      | in_default-role w ↦ w.two-is ∙ w.is_allowed-two.ensures
    ] in
    rw (sym one ∙ c.if-not-one.false, sym two ∙ c.if-not-two.false) c.is_allowed.ensures
