-- One more entry of a list that is read entry by entry.
use Rattle.std.proofs.Common.{◌≡◌, ℕ, suc, ◌+◌, ◌<◌, List, [], ◌∷◌, ◌++◌, length, map, drop, get_or, Result, Ok, sym, ap, subst, ◌∙◌, add-one}
use Rattle.std.specs.Prelude.{decimal}
use Rattle.std.proofs.Math.Seq.{drop-cons}
use Rattle.res_model.specs.Steps.{◌>>=◌}
use Rattle.table_members.specs.Forms.{below, entries_after}
use Rattle.serde_json.specs.Data.{Data}
use Rattle.table_members.specs.declared.fault.TableFault.{TableFault}

pub entries_next : {V X : Type 0} (view : V → Data) (entry : List X → List ℕ → Data → Result X TableFault) (path : List ℕ) (before lent more : List X) (values : List V) (i : ℕ) (v : V) (x : X) (all : Result (List X) TableFault)
    → i < length values → v ≡ get_or values i v → lent ≡ before → entry lent (below path (decimal (length lent))) (view v) ≡ Ok x → more ≡ before ++ x ∷ []
    → entries_after entry path before (map view (drop i values)) ≡ all → entries_after entry path more (map view (drop (i + 1) values)) ≡ all
entries_next {V} {X} view entry path before lent more values i v x all lt is same e now h =
    let d : drop i values ≡ v ∷ drop (suc i) values = drop-cons values i v lt ∙ ap (λ (w : V). w ∷ drop (suc i) values) (sym is) in
    let h2 : entries_after entry path before (view v ∷ map view (drop (suc i) values)) ≡ all = subst (λ (vs : List V). entries_after entry path before (map view vs) ≡ all) d h in
    let e2 : entry before (below path (decimal (length before))) (view v) ≡ Ok x = subst (λ (s : List X). entry s (below path (decimal (length s))) (view v) ≡ Ok x) same e in
    let h3 : entries_after entry path (before ++ x ∷ []) (map view (drop (suc i) values)) ≡ all =
    sym (ap (λ (r : Result X TableFault). r >>= λ y. entries_after entry path (before ++ y ∷ []) (map view (drop (suc i) values))) e2) ∙ h2 in
    let h4 : entries_after entry path more (map view (drop (suc i) values)) ≡ all = subst (λ (xs : List X). entries_after entry path xs (map view (drop (suc i) values)) ≡ all) (sym now) h3 in
    subst (λ (k : ℕ). entries_after entry path more (map view (drop k values)) ≡ all) (sym (add-one i)) h4
