-- The paths among deques, hands and closed boxes.
use Rattle.std.proofs.Common.{◌≡◌, ℕ, zero, suc, ◌+◌, ◌*◌, ◌/◌, ◌^◌, ◌<◌, List, [], ◌∷◌, ◌++◌, map, set, eqb, false, Option, Some, None, refl, sym, subst, ap, ◌∙◌, arith}
use Rattle.std.specs.Prelude.{IsSome, is_some, slice_get}
use Rattle.std.specs.List.{concat, flat_map}
use Rattle.std.specs.Option.{option_to_list}
use Rattle.std.proofs.lemmas.Nat.{shr-shr, div_below, pow_pos, pow_below}
use Rattle.res_base.specs.Lists.{Each, Member, total}
use Rattle.res_base.specs.Sums.{one_if}
use Rattle.res_base.proofs.ListLemmas.{total_append, total_snoc}
use Rattle.choice_rank.specs.Choices.{IsChoice}
use Rattle.box_split.specs.Boxes.{Run, is_single}
use Rattle.box_split.specs.Paths.{box_of, covers}
use Rattle.box_split.proofs.RunLemmas.{box_root, halves_count}
use Rattle.box_split.proofs.PathLemmas.{box_zero, lower_path, upper_path}
use Rattle.box_split.proofs.PrefixLemmas.{same_box}
use Rattle.box_split.proofs.LawLemmas.{whole_covers}
use Rattle.search_api.specs.declared.verdict.Verdict.TheVariants as verdict
use Rattle.search_api.specs.declared.outcome.Cause.{Cause}
use Rattle.search_api.specs.declared.outcome.Closed.{Closed}
use Rattle.search_api.specs.Meaning.{Meaning}
use Rattle.search_api.specs.Accounts.{OpenAbove}
use Rattle.search_core.specs.declared.state.Hand.{Hand}
use Rattle.search_core.specs.declared.state.Core.{Core}
use Rattle.search_core.specs.Events.{with_deque, with_closed}
use Rattle.search_core.specs.Fits.{entries}
use Rattle.search_core.proofs.ChangeLemmas.{member_times, once_itself, part_get, total_put, total_flat, total_concat, flat_put, each_within}

-- the weight of a hand's path
abbrev pub in_hand : (ℕ → ℕ) → Hand → ℕ
in_hand h k = total h (option_to_list k.path)

total_map : (h : ℕ → ℕ) (xs : List Closed) → total h (map (λ (e : Closed). e.path) xs) ≡ total (λ (e : Closed). h e.path) xs
total_map h [] = refl
total_map h (x ∷ xs) = omega (arith, total_map h xs)

pub weigh : (h : ℕ → ℕ) (c : Core) → total h (entries c) ≡ total (λ d. total h d) c.deques + (total (in_hand h) c.hands + total (λ (e : Closed). h e.path) c.closed)
weigh h c =
    omega (
      arith,
      total_append h (concat c.deques) (flat_map (λ (k : Hand). option_to_list k.path) c.hands ++ map (λ (e : Closed). e.path) c.closed),
      total_append h (flat_map (λ (k : Hand). option_to_list k.path) c.hands) (map (λ (e : Closed). e.path) c.closed),
      total_concat h c.deques,
      total_flat h (λ (k : Hand). option_to_list k.path) c.hands,
      total_map h c.closed,
    )

pub weigh_deque : (h : ℕ → ℕ) (c : Core) (v w : ℕ) (d e : List ℕ) (hand new : Hand) → slice_get c.deques v ≡ Some d → slice_get c.hands w ≡ Some hand → total h (entries (with_deque c v e w new)) + total h d + in_hand h hand ≡ total h (entries c) + total h e + in_hand h new
weigh_deque h c v w d e hand new at own =
    omega (arith, weigh h (with_deque c v e w new), weigh h c, total_put (λ x. total h x) c.deques v d e at, total_put (in_hand h) c.hands w hand new own)

pub weigh_closed : (h : ℕ → ℕ) (c : Core) (w : ℕ) (hand new : Hand) (path : ℕ) (why : Cause) (kept : List ℕ) → slice_get c.hands w ≡ Some hand → total h (entries (with_closed c w new path why kept)) + in_hand h hand ≡ total h (entries c) + in_hand h new + h path
weigh_closed h c w hand new path why kept own =
    omega (
      arith,
      weigh h (with_closed c w new path why kept),
      weigh h c,
      total_put (in_hand h) c.hands w hand new own,
      total_snoc (λ (e : Closed). h e.path) c.closed (record { worker = w; path = path; cause = why }),
    )

-- a hand's path is among them
pub path_member : (c : Core) (w : ℕ) (hand : Hand) (path : ℕ) → slice_get c.hands w ≡ Some hand → hand.path ≡ Some path → Member path (entries c)
path_member c w hand path own has =
    member_times path (entries c)
    (let g : ℕ → ℕ = λ y. one_if (eqb y path) in
    let here : in_hand g hand ≡ total g (path ∷ []) = ap (λ (o : Option ℕ). total g (option_to_list o)) has in
    omega (arith, weigh g c, part_get (in_hand g) c.hands w hand own, here, once_itself path))

-- the same paths, where a hand keeps its path
pub entries_same : (c : Core) (w : ℕ) (hand new : Hand) (word : Option ℕ) → slice_get c.hands w ≡ Some hand → new.path ≡ hand.path → entries (record { deques = c.deques; hands = set c.hands w new; word = word; kept = c.kept; closed = c.closed }) ≡ entries c
entries_same c w hand new word own same =
    ap (λ (xs : List ℕ). concat c.deques ++ (xs ++ map (λ (e : Closed). e.path) c.closed)) (flat_put (λ (k : Hand). option_to_list k.path) c.hands w hand new own (ap (option_to_list {X = ℕ}) same))

half_none : (k : ℕ) → 0 < k → 1 / 2 ^ k ≡ 0
half_none k h = omega (arith, div_below 1 (2 ^ k) 1 (pow_pos k) (omega (arith, pow_below 0 k h)))

module _ (m : Meaning) where
  -- what holds of the paths together
  pub record AreEntries (paths : List ℕ) : Type 0 where
    pub cover : (choice : List ℕ) → IsChoice m.shape choice → total (λ p. covers m.shape p choice) paths ≡ 1
    pub are_paths : Each (λ p. IsSome (box_of m.shape p)) paths
    pub open_above : Each (OpenAbove m) paths

  none_above : OpenAbove m 1
  none_above k b pos at =
      let e : ◌≡◌ {A = Option (List Run)} None (Some b) = sym (box_zero m.shape) ∙ (ap (box_of m.shape) (sym (half_none k pos)) ∙ at) in
      cc

  -- the verdict on a half's parent is that on its box
  open_half : (p bit : ℕ) (box : List Run) → bit < 2 → box_of m.shape p ≡ Some box → m.verdict box ≡ verdict.Open → OpenAbove m p → OpenAbove m (2 * p + bit)
  open_half p bit box l e o h zero b pos at = absurd (omega arith)
  open_half p bit box l e o h (suc zero) b pos at =
      let q : (2 * p + bit) / 2 ^ 1 ≡ p = omega arith in
      let same : box ≡ b = same_box box b (sym e ∙ (ap (box_of m.shape) (sym q) ∙ at)) in
      ap m.verdict (sym same) ∙ o
  open_half p bit box l e o h (suc (suc k)) b pos at =
      let q : (2 * p + bit) / 2 ^ 1 ≡ p = omega arith in
      let r : (2 * p + bit) / 2 ^ suc (suc k) ≡ p / 2 ^ suc k = ap (λ n. (2 * p + bit) / 2 ^ n) (omega arith) ∙ sym (shr-shr (2 * p + bit) 1 (suc k)) ∙ ap (λ n. n / 2 ^ suc k) q in
      h (suc k) b (omega arith) (ap (box_of m.shape) (sym r) ∙ at)

  some_box : (o : Option (List Run)) (b : List Run) → o ≡ Some b → IsSome o
  some_box o b e = ap is_some e

  pub entries_first : AreEntries (1 ∷ [])
  entries_first = record {
    cover = λ c i. omega (arith, whole_covers m.shape c i);
    are_paths = (ap is_some (box_root m.shape), tt);
    open_above = (none_above, tt);
  }

  pub entries_moved : (xs ys : List ℕ) → ((h : ℕ → ℕ) → total h ys ≡ total h xs) → AreEntries xs → AreEntries ys
  entries_moved xs ys w a = record {
    cover = λ c i. omega (arith, w (λ p. covers m.shape p c), a.cover c i);
    are_paths = each_within (λ p. IsSome (box_of m.shape p)) xs [] ys (λ h. omega (arith, w h)) a.are_paths tt;
    open_above = each_within (OpenAbove m) xs [] ys (λ h. omega (arith, w h)) a.open_above tt;
  }

  -- a path was put in the place of its halves
  pub entries_split : (xs ys : List ℕ) (p : ℕ) (box : List Run) → ((h : ℕ → ℕ) → total h ys + h p ≡ total h xs + (h (2 * p + 1) + h (2 * p))) → box_of m.shape p ≡ Some box → is_single box ≡ false → m.verdict box ≡ verdict.Open → OpenAbove m p → AreEntries xs → AreEntries ys
  entries_split xs ys p box w e s v o a =
      let two : 2 * p + 0 ≡ 2 * p = omega arith in
      let up = open_half p 1 box (omega arith) e v o in
      let down = subst (OpenAbove m) two (open_half p 0 box (omega arith) e v o) in
      let more : List ℕ = (2 * p + 1) ∷ (2 * p) ∷ [] in
      record {
        cover = λ c i. omega (arith, w (λ q. covers m.shape q c), a.cover c i, halves_count m.shape p box e s c);
        are_paths = each_within (λ q. IsSome (box_of m.shape q)) xs more ys (λ h. omega (arith, w h)) a.are_paths (ap is_some (upper_path m.shape p box e s), (ap is_some (lower_path m.shape p box e s), tt));
        open_above = each_within (OpenAbove m) xs more ys (λ h. omega (arith, w h)) a.open_above (up, (down, tt));
      }
