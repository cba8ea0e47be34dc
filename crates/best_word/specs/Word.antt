-- The least kept rank, and what each seat kept and saw.
use Rattle.std.specs.Prelude.{◌≡◌, ℕ, ◌+◌, ◌-◌, ◌<◌, ◌≤◌, ◌^◌, List, [], ◌∷◌, ◌++◌}
use mathlib.Core.Option.{some}
use lib.ListN.{get_elem?}
use Rattle.atomic_table.specs.Table.{State, Me, Step}
use Rattle.best_word.specs.declared.part.Part.{Part}
use Rattle.best_word.specs.declared.part.Part.TheVariants.{First, Spent}
use Rattle.best_word.specs.Parts.{OneFirst}
use Rattle.res_base.specs.Lists.{Member}
use Rattle.best_word.specs.declared.word.View.{View}

module _ {J : Type 0} where
  abbrev pub view_of : Part → ℕ → List ℕ → List ℕ → ℕ → View J
  view_of part out kept saw blank = record { of = record {}; part = part; out = out; kept = kept; saw = saw; blank = blank }

  abbrev pub newcomer : Part → View J
  newcomer part = view_of part 0 [] [] 0

  abbrev pub one_more_out : View J → View J
  one_more_out v = view_of v.part (v.out + 1) v.kept v.saw v.blank

  abbrev pub together : View J → View J → View J
  together v u = view_of v.part (v.out - 1) (v.kept ++ u.kept) (v.saw ++ u.saw) (v.blank + u.blank)

  abbrev pub saw_more : View J → ℕ → View J
  saw_more v n = view_of v.part v.out v.kept (v.saw ++ n ∷ []) v.blank

  abbrev pub blank_more : View J → View J
  blank_more v = view_of v.part v.out v.kept v.saw (v.blank + 1)

  abbrev pub kept_more : View J → ℕ → View J
  kept_more v n = view_of v.part v.out (v.kept ++ n ∷ []) v.saw v.blank

  -- some view kept r
  abbrev pub KeptBy : List (View J) → ℕ → Type 0
  KeptBy views r = (port : ℕ) × (v : View J) × (get_elem? views port ≡ some v) × Member r v.kept

  -- Each kept rank is legal; the word is the least rank that some view kept, and stands for no rank where none was kept;
  -- each rank that was seen was kept; exactly one view is first, and it counts those that are out; a view that was taken back has empty lists
  pub record Least (legal : ℕ → Type 0) (n : ℕ) (views : List (View J)) : Type 0 where
    pub ranks : (port : ℕ) (v : View J) → get_elem? views port ≡ some v → (r : ℕ) → Member r v.kept → legal r
    pub low : (port : ℕ) (v : View J) → get_elem? views port ≡ some v → (r : ℕ) → Member r v.kept → n ≤ r
    pub stands : n < 2 ^ 63 → KeptBy views n
    pub seen : (port : ℕ) (v : View J) → get_elem? views port ≡ some v → (r : ℕ) → Member r v.saw → KeptBy views r
    pub parts : OneFirst (λ (v : View J). v.part) (λ v. v.out) views
    pub spent : (port : ℕ) (v : View J) → get_elem? views port ≡ some v → v.part ≡ Spent → (v.kept ≡ []) × (v.saw ≡ [])

  abbrev pub Holds : (ℕ → Type 0) → State (Unit {0}) (View J) → Type 0
  Holds legal s = (n : ℕ) × (s.words ≡ n ∷ []) × Least legal n s.views

  -- what a load of n tells
  abbrev pub SeesRank : View J → ℕ → View J → Type 0
  SeesRank v n w = (w ≡ saw_more v n) × ((r : ℕ) → Member r v.kept → n ≤ r) × ((r : ℕ) → Member r v.saw → n ≤ r)
      × (v.part ≡ First → v.out ≡ 0 → (r : ℕ) → Member r w.saw → Member r v.kept)

  abbrev pub SeesNone : View J → View J → Type 0
  SeesNone v w = (w ≡ blank_more v) × (v.kept ≡ []) × (v.saw ≡ [])

  abbrev pub Loaded : Step (Unit {0}) → Me (Unit {0}) (View J) → ℕ → Me (Unit {0}) (View J) → Type 0
  Loaded st me n now = (n < 2 ^ 63 → SeesRank me.0 n now.0) × (2 ^ 63 ≤ n → SeesNone me.0 now.0) × (now.1 ≡ me.1)

  abbrev pub Offered : Step (Unit {0}) → Me (Unit {0}) (View J) → ℕ → Me (Unit {0}) (View J) → Type 0
  Offered st me n now = now ≡ (kept_more me.0 st.first, me.1)
