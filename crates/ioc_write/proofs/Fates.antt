-- The use of the signal at home at a pin, signal by signal.
use Rattle.std.proofs.Common.{◌≡◌, ℕ, suc, ◌+◌, ◌<◌, List, ◌∷◌, length, drop, get_or, false, refl, sym, ap, ◌∙◌, add-one, arith}
use Rattle.std.proofs.Math.Seq.{drop-cons}
use Rattle.ioc_project.specs.Project.{is_some_of}
use Rattle.res_model.specs.declared.project.Signal.{Signal}
use Rattle.res_model.specs.declared.table.Mode.TheVariants.{Held}
use Rattle.res_model.specs.declared.table.PinUse.{PinUse}
use Rattle.ioc_write.specs.WriteBack.{home_use}

pub next_of : {X : Type 0} (xs : List X) (k : ℕ) (x : X) → k < length xs → x ≡ get_or xs k x → drop k xs ≡ x ∷ drop (k + 1) xs
next_of xs k x lt is = rw add-one (drop-cons xs k x lt ∙ ap (λ y. y ∷ drop (suc k) xs) (sym is))

module _ (ss : List Signal) (us : List PinUse) (k : ℕ) (s : Signal) (pin : ℕ) (lt : k < length ss) (many : length us ≡ length ss) (is : s ≡ get_or ss k s) where
  pub home_more : is_some_of s.home pin ≡ false → home_use (drop (k + 1) ss) (drop (k + 1) us) pin ≡ home_use (drop k ss) (drop k us) pin
  home_more e =
      let l : k < length us = omega arith in
      let u : PinUse = record { pin = 0; mode = Held } in
      let used : drop k us ≡ get_or us k u ∷ drop (k + 1) us = rw add-one (drop-cons us k u l) in
      let heads : home_use (drop k ss) (drop k us) pin ≡ home_use (s ∷ drop (k + 1) ss) (get_or us k u ∷ drop (k + 1) us) pin = rw (next_of ss k s lt is, used) refl in
      let passed : home_use (s ∷ drop (k + 1) ss) (get_or us k u ∷ drop (k + 1) us) pin ≡ home_use (drop (k + 1) ss) (drop (k + 1) us) pin = rw e refl in
      sym (heads ∙ passed)
