-- A form and a role are told apart by their numbers.
use Rattle.std.specs.Prelude.{ℕ, ◌≡◌, List, [], ◌∷◌, true, get_or, refl}
use Rattle.std.proofs.Common.{ap, sym, ◌∙◌}
use borrow.Author.Tests.{eqb-true}
use Rattle.ec20.specs.Forms.{form_code, form_is}
use Rattle.ec20.specs.Roles.{role_code}
use Rattle.ec20.specs.declared.Form.{Form}
use Rattle.ec20.specs.declared.Form.TheVariants.{Nop, Contact, Join, Branch, Coil, Compare, Timer, For, Next, Jump, Label, End, Three, Two, One}
use Rattle.ec20.specs.declared.Role.{Role}
use Rattle.ec20.specs.declared.Role.TheVariants.{Unused, BitRead, BitWritten, Source, Target, Changed, Quotient, Timer as UnitTimer, Units, Passes, Label as LabelPlace}

forms : List Form
forms = Nop ∷ Contact ∷ Join ∷ Branch ∷ Coil ∷ Compare ∷ Timer ∷ For ∷ Next ∷ Jump ∷ Label ∷ End ∷ Three ∷ Two ∷ One ∷ []

form-of_code : (f : Form) → get_or forms (form_code f) Nop ≡ f
unfolding forms
form-of_code Nop = refl
form-of_code Contact = refl
form-of_code Join = refl
form-of_code Branch = refl
form-of_code Coil = refl
form-of_code Compare = refl
form-of_code Timer = refl
form-of_code For = refl
form-of_code Next = refl
form-of_code Jump = refl
form-of_code Label = refl
form-of_code End = refl
form-of_code Three = refl
form-of_code Two = refl
form-of_code One = refl

pub same_form : (f g : Form) → form_code f ≡ form_code g → f ≡ g
same_form f g e = sym (form-of_code f) ∙ ap (λ n. get_or forms n Nop) e ∙ form-of_code g

pub form_is-true : (f g : Form) → form_is f g ≡ true → f ≡ g
form_is-true f g e = same_form f g (eqb-true _ _ e)

roles : List Role
roles = Unused ∷ BitRead ∷ BitWritten ∷ Source ∷ Target ∷ Changed ∷ Quotient ∷ UnitTimer ∷ Units ∷ Passes ∷ LabelPlace ∷ []

role-of_code : (r : Role) → get_or roles (role_code r) Unused ≡ r
unfolding roles
role-of_code Unused = refl
role-of_code BitRead = refl
role-of_code BitWritten = refl
role-of_code Source = refl
role-of_code Target = refl
role-of_code Changed = refl
role-of_code Quotient = refl
role-of_code UnitTimer = refl
role-of_code Units = refl
role-of_code Passes = refl
role-of_code LabelPlace = refl

pub same_role : (r s : Role) → role_code r ≡ role_code s → r ≡ s
same_role r s e = sym (role-of_code r) ∙ ap (λ n. get_or roles n Unused) e ∙ role-of_code s
