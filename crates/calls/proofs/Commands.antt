-- The ways out of `command`: k is the name's place, and n how many words the call has. Assumes nothing.
use Rattle.std.proofs.Common.{◌≡◌, ℕ, ◌≤◌, Bool, true, false, cond, ◌&&◌, eqb, List, sym, ap, ◌∙◌, ap₂, arith, ne_eqb, refl}
use lib.ListN.{get_or-eq_default}
use Rattle.calls.specs.Asked.{number_of_command, names, picture, counts, fits_of, is_picture, command_by, command_of, salvage_word, is_salvage}
use Rattle.calls.specs.Text.{word_of, count_of, same_word, which_of}
use Rattle.calls.proofs.Words.{same-is}
use Rattle.std.specs.Prelude.{slice_index_or, Some}
use denote.Enum.Bare.{sameb}
use Rattle.calls.specs.contracts.names.Command.{the_type}
use Rattle.calls.specs.declared.names.Command.TheVariants.{Check, Map, Move, Exchange, Scan, Trial, Demo, Answer, Slave, Clashes, Longer, Job, Picture}
use Rattle.calls.specs.declared.names.Command.{Command}

-- whether it is a map, as `==` tells it
pub map-is : (c : Command) → sameb the_type c Map ≡ eqb (number_of_command (Some c)) 1
map-is Check = refl
map-is Map = refl
map-is Move = refl
map-is Exchange = refl
map-is Scan = refl
map-is Trial = refl
map-is Demo = refl
map-is Answer = refl
map-is Slave = refl
map-is Clashes = refl
map-is Longer = refl
map-is Job = refl
map-is Picture = refl

-- k is the place of the first word among the names, or 12, and n how many words there are
module _ (s w : List ℕ) (k n : ℕ) (ew : w ≡ word_of s 0) (ek : k ≡ which_of w names 12) (en : n ≡ count_of s) where
  command-is : command_by s k n ≡ command_of s
  unfolding command_of
  command-is = ap₂ (command_by s) (ek ∙ ap (λ (x : List ℕ). which_of x names 12) ew) en

  -- no name
  pub command-nameless : 12 ≤ k → 12 ≡ command_of s
  unfolding command_by fits_of is_picture
  command-nameless h =
      let f : slice_index_or (counts n) k false ≡ false = get_or-eq_default (counts n) false h in
      let q : eqb k 1 ≡ false = ne_eqb k 1 (λ e. absurd (omega arith)) in
      sym (rw (f, q) refl) ∙ command-is

  -- t is whether the call fits
  module _ (t : Bool) (et : t ≡ fits_of k n) where
    pub command-fits : t ≡ true → k ≡ command_of s
    unfolding command_by
    command-fits z = sym (ap (λ (b : Bool). cond b k (cond (is_picture s k n) 13 12)) (sym et ∙ z)) ∙ command-is

    -- and p whether it asks for a picture, y its second word, and u whether that is --picture
    module _ (y : List ℕ) (u : Bool) (ey : y ≡ word_of s 1) (eu : (u ≡ true → y ≡ picture) × (y ≡ picture → u ≡ true)) (z : t ≡ false) where
      picture-is : (p : Bool) → (eqb k 1 && eqb n 3 && u) ≡ p → is_picture s k n ≡ p
      unfolding is_picture
      picture-is p e = ap (λ (x : Bool). eqb k 1 && eqb n 3 && x) (sym (same-is u y picture eu ∙ ap (λ (x : List ℕ). same_word x picture) ey)) ∙ e

      by-picture : (p : Bool) → (eqb k 1 && eqb n 3 && u) ≡ p → cond p 13 12 ≡ command_of s
      unfolding command_by
      by-picture p e =
          sym (ap₂ (λ (a b : Bool). cond a k (cond b 13 12)) (sym et ∙ z) (picture-is p e)) ∙ command-is

      pub command-picture : (eqb k 1 && eqb n 3 && u) ≡ true → 13 ≡ command_of s
      command-picture e = by-picture true e

      pub command-none : (eqb k 1 && eqb n 3 && u) ≡ false → 12 ≡ command_of s
      command-none e = by-picture false e

-- a salvage: u is whether the first word is its name, n how many words there are
pub salvage-is : (s w : List ℕ) (n : ℕ) (u : Bool) → w ≡ word_of s 0 → n ≡ count_of s → (u ≡ true → w ≡ salvage_word) × (w ≡ salvage_word → u ≡ true)
    → (u && eqb n 3) ≡ is_salvage s
unfolding is_salvage
salvage-is s w n u ew en eu =
    ap₂ (λ (a : Bool) (k : ℕ). a && eqb k 3) (same-is u w salvage_word eu ∙ ap (λ (x : List ℕ). same_word x salvage_word) ew) en
