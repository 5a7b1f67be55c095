-- The forms: which instruction (specs/Code.antt) a record makes. The last three are word instructions: of two sources and a target, of a source and
-- a target, of a target that is also read.
use Rattle.std.specs.Prelude.{ℕ, Bool, eqb, leb}
use Rattle.ec20.specs.declared.Form.{Form}
use Rattle.ec20.specs.declared.Form.TheVariants.{Nop, Contact, Join, Branch, Coil, Compare, Timer, For, Next, Jump, Label, End, Three, Two, One}

pattern abbrev pub form_nop : Form
form_nop = Nop

pattern abbrev pub form_contact : Form
form_contact = Contact

pattern abbrev pub form_join : Form
form_join = Join

pattern abbrev pub form_branch : Form
form_branch = Branch

pattern abbrev pub form_coil : Form
form_coil = Coil

pattern abbrev pub form_compare : Form
form_compare = Compare

pattern abbrev pub form_timer : Form
form_timer = Timer

pattern abbrev pub form_for : Form
form_for = For

pattern abbrev pub form_next : Form
form_next = Next

pattern abbrev pub form_jump : Form
form_jump = Jump

pattern abbrev pub form_label : Form
form_label = Label

pattern abbrev pub form_end : Form
form_end = End

pattern abbrev pub form_three : Form
form_three = Three

pattern abbrev pub form_two : Form
form_two = Two

pattern abbrev pub form_one : Form
form_one = One

-- each by a number of our own, which the table's rows follow
abbrev pub form_code : Form → ℕ
form_code Nop = 0
form_code Contact = 1
form_code Join = 2
form_code Branch = 3
form_code Coil = 4
form_code Compare = 5
form_code Timer = 6
form_code For = 7
form_code Next = 8
form_code Jump = 9
form_code Label = 10
form_code End = 11
form_code Three = 12
form_code Two = 13
form_code One = 14

abbrev pub form_is : Form → Form → Bool
form_is f g = eqb (form_code f) (form_code g)

-- a word instruction
abbrev pub is_word_form : Form → Bool
is_word_form f = leb (form_code form_three) (form_code f)
