-- The lines of things, one after another.
use Rattle.std.proofs.Common.{◌≡◌, ℕ, ◌+◌, ◌<◌, ◌≤◌, List, [], ◌∷◌, ◌++◌, length, drop, get_or, refl, sym, ap, ◌∙◌, subst, append_assoc, append-nil, add-one, drop-cons}
use Rattle.std.proofs.lemmas.List.{drop_all}
use Rattle.ioc_text.specs.declared.line.Line.{Line}
use Rattle.res_model.specs.declared.opts.Opts.{Opts}
use Rattle.res_model.specs.declared.project.Signal.{Signal}
use Rattle.res_model.specs.declared.table.TableParts.{TableParts}
use Rattle.explain.specs.GiveUp.{Tells}
use Rattle.explain.specs.Going.{Told}
use Rattle.explain.specs.declared.kinds.Thing.{Thing}

module _ (t : TableParts) (ioc : List Line) (opts : Opts) (signals : List Signal) where
  abbrev pub Says : List Thing → List ℕ → Type 0
  Says things text = Tells t ioc opts signals things text

  -- the lines so far, with those of the things from a place on
  pub record Goes (things : List Thing) (i : ℕ) (out : List ℕ) : Type 0 where
    pub on : (rest : List ℕ) → Says (drop i things) rest → Says things (out ++ rest)

  pub none_yet : (things : List Thing) (out : List ℕ) → out ≡ [] → Goes things 0 out
  none_yet things out e = record { on = λ rest h. subst (λ (x : List ℕ). Says things (x ++ rest)) (sym e) h }

  one : (thing : Thing) (things : List Thing) (line rest : List ℕ) → Told t ioc opts signals thing line → Says things rest → Says (thing ∷ things) (line ++ rest)
  one thing things line rest told h = (told.cost, told.comes, (rest, ap (λ (l : List ℕ). l ++ rest) told.line_is, h))

  pub one_more : (things : List Thing) (i : ℕ) (d : Thing) (out line next : List ℕ) → i < length things → Told t ioc opts signals (get_or things i d) line
      → next ≡ out ++ line → Goes things i out → Goes things (i + 1) next
  one_more things i d out line next l told put goes = record {
    on = λ rest h.
        let prefix : drop i things ≡ get_or things i d ∷ drop (i + 1) things = rw add-one (drop-cons things i d l) in
        let here : Says (drop i things) (line ++ rest) = subst (λ (xs : List Thing). Says xs (line ++ rest)) (sym prefix) (one (get_or things i d) (drop (i + 1) things) line rest told h) in
        subst (λ (text : List ℕ). Says things text) (sym (append_assoc out line rest) ∙ ap (λ (x : List ℕ). x ++ rest) (sym put)) (goes.on (line ++ rest) here);
  }

  pub all : (things : List Thing) (i : ℕ) (out : List ℕ) → length things ≤ i → Goes things i out → Says things out
  all things i out l goes =
      subst (λ (text : List ℕ). Says things text) (append-nil out) (goes.on [] (subst (λ (xs : List Thing). Says xs []) (sym (drop_all i things l)) refl))
