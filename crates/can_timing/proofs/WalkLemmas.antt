-- Boxes that a walk refutes, and the first legal choice of a box.
use Rattle.std.proofs.Common.{◌≡◌, ℕ, ◌+◌, ◌<◌, ◌≤◌, List, [], ◌∷◌, ◌++◌, Bool, true, false, Option, Some, None, ◌⊎◌, inl, inr, refl, sym, ap, subst, ◌∙◌, append_assoc, arith}
use Rattle.std.specs.Prelude.{codes, is_some, map}
use Rattle.std.proofs.lemmas.Nat.{mul-le}
use Rattle.res_base.specs.Sums.{one_if}
use Rattle.choice_rank.specs.declared.variable.VarShape.{VarShape}
use Rattle.choice_rank.specs.Choices.{IsChoice, choices_of, index_of, rank_of}
use Rattle.choice_rank.specs.Least.{IsAnswer, NoneLegal}
use Rattle.box_split.specs.Boxes.{Run, IsBox, LiesIn, holds, is_single, low_of, lows, highs, size_of, whole}
use Rattle.box_split.specs.Paths.{lower, upper, split_from}
use Rattle.box_split.proofs.LawLemmas.{holds_in, lies, whole_lies}
use Rattle.box_split.proofs.OrderLemmas.{apart}
use Rattle.box_split.proofs.PathLemmas.{lower_box, lows_choice, upper_box}
use Rattle.box_split.proofs.PrefixLemmas.{lows_held}
use Rattle.box_split.proofs.RunLemmas.{halved, held, low_index, low_rank}
use Rattle.box_split.proofs.SizeLemmas.{size_pos, sizes}
use Rattle.refutation.specs.declared.node.Node.{Node}
use Rattle.refutation.specs.Canonical.{NotBad}
use Rattle.refutation.specs.Forms.{LimitForm, SplitForm, form_of}
use Rattle.refutation.specs.Spelling.{form_text, forms_text, spelling}
use Rattle.refutation.specs.Trees.{Accepts, BadLeaf, Fork, nodes_of}
use Rattle.refutation.proofs.AcceptLemmas.{in_half, parts}
use Rattle.refutation.proofs.FormLemmas.{parts_in_order}
use Rattle.search_api.proofs.PlaceLemmas.{split_open}
use Rattle.search_api.specs.declared.verdict.Reason.TheVariants.{Limit}
use Rattle.search_api.specs.declared.verdict.Verdict.TheVariants as verdict
use Rattle.can_timing.specs.declared.request.Request.{Request}
use Rattle.can_timing.specs.Timings.{can_shape}
use Rattle.can_timing.specs.Judged.{can_meaning, legal, refutes_point, refutes_rate, verdict_from}
use Rattle.can_timing.specs.Lawful.{can_lawful}
use Rattle.can_timing.specs.Texts.{IsRefutation}
use Rattle.can_timing.specs.Walk.{IsFirst, IsRefuted, IsWalked, refutation_start}

-- ---- the order of a box's choices

high_index : (vs : List VarShape) (rs : List Run) (xs : List ℕ) → holds rs xs ≡ true → index_of vs xs ≤ index_of vs (highs rs)
high_index [] rs xs h = omega arith
high_index (v ∷ vs) [] [] h = omega arith
high_index (v ∷ vs) [] (x ∷ xs) h = cc
high_index (v ∷ vs) (r ∷ rs) [] h = cc
high_index (v ∷ vs) (r ∷ rs) (x ∷ xs) h =
    let a = held r rs x xs h in
    omega (arith, mul-le x (choices_of vs) r.high (choices_of vs) a.1 (omega arith), high_index vs rs xs a.2)

-- no position of a timing has a cost, so that the index is the rank
index_is : (choice : List ℕ) → IsChoice can_shape choice → rank_of can_shape choice ≡ index_of can_shape choice
index_is [] i = absurd i
index_is (x ∷ []) i = absurd i.1
index_is (x ∷ y ∷ []) i = absurd i.1.1
index_is (x ∷ y ∷ z ∷ []) i = absurd i.1.1.1
index_is (x ∷ y ∷ z ∷ k ∷ j ∷ rest) i = absurd i.1.1.1.1
index_is (x ∷ y ∷ z ∷ k ∷ []) i = omega arith

module _ (box : List Run) (b : IsBox can_shape box) (two : is_single box ≡ false) where
  -- the choices of the lower half have the lower ranks
  in_order : (choice other : List ℕ) → IsChoice can_shape choice → IsChoice can_shape other → LiesIn (lower box) choice → LiesIn (upper box) other → rank_of can_shape choice ≤ rank_of can_shape other
  in_order choice other i j l u = omega (
    arith,
    index_is choice i,
    index_is other j,
    high_index can_shape (lower box) choice (holds_in (lower box) choice l),
    apart can_shape box b two,
    low_index can_shape (upper box) other (holds_in (upper box) other u),
  )

  either : (a c : Bool) → one_if a + one_if c ≡ 1 → (a ≡ true) ⊎ (c ≡ true)
  either true c e = inl refl
  either false true e = inr refl
  either false false e = absurd (omega arith)

  some_half : (a c d : Bool) → one_if a + one_if c ≡ one_if d → (a ≡ true) ⊎ (c ≡ true) → d ≡ true
  some_half true true true e h = refl
  some_half true false true e h = refl
  some_half false true true e h = refl
  some_half true true false e h = absurd (omega (arith, e))
  some_half true false false e h = absurd (omega (arith, e))
  some_half false true false e h = absurd (omega (arith, e))
  some_half false false d e h = elim h [ inl y ↦ cc | inr y ↦ cc ]

  lies_half : (choice : List ℕ) → LiesIn box choice → LiesIn (lower box) choice ⊎ LiesIn (upper box) choice
  lies_half choice l = elim (in_half box choice two (holds_in box choice l)) [ inl y ↦ inl (lies (lower box) choice y) | inr y ↦ inr (lies (upper box) choice y) ]

  of_half : (choice : List ℕ) → LiesIn (lower box) choice ⊎ LiesIn (upper box) choice → LiesIn box choice
  of_half choice h = lies box choice (some_half (holds (lower box) choice) (holds (upper box) choice) (holds box choice) (halved box choice two) (elim h [
    | inl y ↦ inl (holds_in (lower box) choice y)
    | inr y ↦ inr (holds_in (upper box) choice y)
  ]))

  pub lower_less : size_of (lower box) < size_of box
  lower_less = omega (arith, sizes box two, size_pos can_shape (upper box) (upper_box can_shape box b))

  pub upper_less : size_of (upper box) < size_of box
  upper_less = omega (arith, sizes box two, size_pos can_shape (lower box) (lower_box can_shape box b))

  module _ (q : Request) (rank : ℕ) where
    pub first_in_lower : IsFirst (can_meaning q) (lower box) rank → IsFirst (can_meaning q) box rank
    first_in_lower f = record {
      choice = f.choice;
      is_choice = f.is_choice;
      inside = of_half f.choice (inl f.inside);
      is_legal = f.is_legal;
      rank_is = f.rank_is;
      is_lowest = λ other j l s. elim (lies_half other l) [
        | inl y ↦ f.is_lowest other j y s
        | inr y ↦ omega (arith, f.rank_is, in_order f.choice other f.is_choice j f.inside y)
      ];
    }

    pub first_in_upper : (before after : List ℕ) → IsRefuted (can_meaning q) (lower box) before after → IsFirst (can_meaning q) (upper box) rank → IsFirst (can_meaning q) box rank
    first_in_upper before after none f = record {
      choice = f.choice;
      is_choice = f.is_choice;
      inside = of_half f.choice (inr f.inside);
      is_legal = f.is_legal;
      rank_is = f.rank_is;
      is_lowest = λ other j l s. elim (lies_half other l) [
        | inl y ↦ absurd (none.none_legal other j y s)
        | inr y ↦ f.is_lowest other j y s
      ];
    }

-- ---- boxes that are refuted, or have one choice

module _ (q : Request) (box : List Run) (b : IsBox can_shape box) where
  limit_refutes : (k : ℕ) (before after : List ℕ) → (can_meaning q).verdict box ≡ verdict.Bad (Limit k) → after ≡ before ++ form_text (LimitForm k) ++ 10 ∷ [] → IsRefuted (can_meaning q) box before after
  limit_refutes k before after v e =
      let lawful = can_lawful q in
      let refuted = lawful.bad_refutes (Limit k) box b v in
      record {
        tree = BadLeaf (Limit k);
        canonical = (refl, v);
        accepts = refuted;
        none_legal = λ c i l s. lawful.none_legal (Limit k) box b refuted c i l s;
        text_is = e ∙ append_assoc before (form_text (LimitForm k)) (10 ∷ []);
      }

  pub rate_refutes : (before after : List ℕ) → refutes_rate q box ≡ true → after ≡ before ++ form_text (LimitForm 3) ++ 10 ∷ [] → IsRefuted (can_meaning q) box before after
  rate_refutes before after r e = limit_refutes 3 before after (rw r refl) e

  pub point_refutes : (before after : List ℕ) → refutes_rate q box ≡ false → refutes_point q box ≡ true → after ≡ before ++ form_text (LimitForm 4) ++ 10 ∷ [] → IsRefuted (can_meaning q) box before after
  point_refutes before after r p e = limit_refutes 4 before after (rw (r, p) refl) e

  module _ (rate : refutes_rate q box ≡ false) (point : refutes_point q box ≡ false) where
    pub one_is_first : is_single box ≡ true → IsFirst (can_meaning q) box (low_of can_shape box)
    one_is_first s =
        let lawful = can_lawful q in
        let v : (can_meaning q).verdict box ≡ verdict.Legal = rw (rate, point, s) refl in
        record {
          choice = lows box;
          is_choice = lows_choice can_shape box b;
          inside = lies box (lows box) (lows_held can_shape box b);
          is_legal = (lawful.legal_is_one box b v).1;
          rank_is = refl;
          is_lowest = λ other j l k. low_rank can_shape box other (holds_in box other l);
        }

    lines_join : (ns ms : List Node) → forms_text (map form_of (ns ++ ms)) ≡ forms_text (map form_of ns) ++ forms_text (map form_of ms)
    lines_join [] ms = refl
    lines_join (n ∷ ns) ms =
        ap (λ xs. form_text (form_of n) ++ 10 ∷ xs) (lines_join ns ms) ∙ sym (append_assoc (form_text (form_of n)) (10 ∷ forms_text (map form_of ns)) (forms_text (map form_of ms)))

    -- the line of the split, and what is appended for each half
    pub halves_refute : (v k : ℕ) (before line between after : List ℕ) → split_from 0 box ≡ Some (v, k) → line ≡ before ++ form_text (SplitForm v k) ++ 10 ∷ []
        → IsRefuted (can_meaning q) (lower box) line between → IsRefuted (can_meaning q) (upper box) between after → IsRefuted (can_meaning q) box before after
    halves_refute v k before line between after split e l u =
        let two = split_open box v k split in
        let p = parts box v k split in
        let text = form_text (SplitForm v k) in
        let left = forms_text (map form_of (nodes_of l.tree)) in
        let right = forms_text (map form_of (nodes_of u.tree)) in
        record {
          tree = Fork v k l.tree u.tree;
          canonical = (refl, not_bad, two, split, l.canonical, u.canonical);
          accepts = (p.can, subst (Accepts (can_meaning q) None l.tree) (sym p.low_is) l.accepts, subst (Accepts (can_meaning q) None u.tree) (sym p.high_is) u.accepts);
          none_legal = λ c i h s. elim (lies_half box b two c h) [ inl y ↦ l.none_legal c i y s | inr y ↦ u.none_legal c i y s ];
          text_is = u.text_is ∙ ap (λ (xs : List ℕ). xs ++ right) (l.text_is ∙ ap (λ (xs : List ℕ). xs ++ left) e)
              ∙ in_line before text left right ∙ ap (λ (xs : List ℕ). before ++ (text ++ 10 ∷ xs)) (sym (lines_join (nodes_of l.tree) (nodes_of u.tree)));
        }
      where
        in_line : (x y z w : List ℕ) → ((x ++ y ++ 10 ∷ []) ++ z) ++ w ≡ x ++ (y ++ 10 ∷ (z ++ w))
        in_line x y z w =
            append_assoc (x ++ y ++ 10 ∷ []) z w ∙ append_assoc (x ++ y) (10 ∷ []) (z ++ w) ∙ append_assoc x y (10 ∷ (z ++ w))

        by_test : (single : Bool) → single ≡ false → NotBad (verdict_from false false single)
        by_test true h = cc
        by_test false h = tt

        not_bad : NotBad ((can_meaning q).verdict box)
        not_bad = rw (rate, point) (by_test (is_single box) (split_open box v k split))

  -- what is found in a half
  pub walked_lower : (two : is_single box ≡ false) (before line between : List ℕ) (found : Option ℕ) → is_some found ≡ true → IsWalked (can_meaning q) (lower box) line between found → IsWalked (can_meaning q) box before between found
  walked_lower two before line between None e w = cc
  walked_lower two before line between (Some rank) e w = first_in_lower box b two q rank w

  pub none_found : (half : List Run) (line between : List ℕ) (found : Option ℕ) → is_some found ≡ false → IsWalked (can_meaning q) half line between found → IsRefuted (can_meaning q) half line between
  none_found half line between None e w = w
  none_found half line between (Some rank) e w = cc

  pub walked_upper : refutes_rate q box ≡ false → refutes_point q box ≡ false → (v k : ℕ) (before line between after : List ℕ) (found : Option ℕ) → split_from 0 box ≡ Some (v, k) → line ≡ before ++ form_text (SplitForm v k) ++ 10 ∷ []
      → IsRefuted (can_meaning q) (lower box) line between → IsWalked (can_meaning q) (upper box) between after found → IsWalked (can_meaning q) box before after found
  walked_upper rate point v k before line between after None split e l w = halves_refute rate point v k before line between after split e l w
  walked_upper rate point v k before line between after (Some rank) split e l w = first_in_upper box b (split_open box v k split) q rank line between l w

-- ---- the box of all choices

module _ (q : Request) where
  pub first_is_answer : (rank : ℕ) → IsFirst (can_meaning q) (whole can_shape) rank → IsAnswer can_shape (legal q) (Some rank)
  first_is_answer rank f = (
    f.choice,
    record {
      is_choice = f.is_choice;
      is_legal = f.is_legal;
      is_lowest = λ other i l. omega (arith, f.rank_is, f.is_lowest other i (whole_lies can_shape other i) l);
    },
    f.rank_is,
  )

  pub none_is_legal : (text : List ℕ) → IsRefuted (can_meaning q) (whole can_shape) refutation_start text → NoneLegal can_shape (legal q)
  none_is_legal text r = λ c i l. r.none_legal c i (whole_lies can_shape c i) l

  pub is_refutation : (text whole_text : List ℕ) → IsRefuted (can_meaning q) (whole can_shape) refutation_start text → whole_text ≡ text ++ codes "end" ++ 10 ∷ [] → IsRefutation (can_meaning q) whole_text
  unfolding spelling
  is_refutation text whole_text r e = record {
    nodes = nodes_of r.tree;
    canonical = record { tree = r.tree; nodes_are = refl; canonical = r.canonical };
    accepted = record { tree = r.tree; nodes_are = refl; accepts = r.accepts; witness = tt };
    text_is = e ∙ ap (λ (xs : List ℕ). xs ++ codes "end" ++ 10 ∷ []) r.text_is
        ∙ parts_in_order (codes "proof 1" ++ 10 ∷ []) (codes "bound none") (forms_text (map form_of (nodes_of r.tree))) (codes "end");
  }
