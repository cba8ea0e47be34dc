-- Internal: what the judge means is lawful.
use Rattle.std.proofs.Common.{◌≡◌, ℕ, ◌+◌, ◌*◌, ◌-◌, ◌<◌, ◌≤◌, ◌==◌, ◌&&◌, ◌||◌, List, [], ◌∷◌, Bool, true, false, leb, ◌⊎◌, inl, inr, refl, sym, ap, subst, ◌∙◌, arith}
use Rattle.std.specs.Prelude.{not}
use Rattle.std.proofs.lemmas.Bool.Decides.{nat_tests}
use Rattle.std.proofs.lemmas.Bool.{cases_lt}
use Rattle.std.proofs.lemmas.Nat.{mul-le}
use Rattle.choice_rank.specs.Choices.{IsShape}
use Rattle.box_split.specs.Boxes.{Run, IsBox, LiesIn, is_single, lows, highs}
use Rattle.box_split.proofs.RunLemmas.{and_both}
use Rattle.search_api.specs.declared.verdict.Reason.{Reason}
use Rattle.search_api.specs.declared.verdict.Reason.TheVariants.{Hall, Limit}
use Rattle.search_api.specs.declared.verdict.Verdict.TheVariants as verdict
use Rattle.search_api.specs.Meaning.{IsLawful}
use Rattle.can_timing.specs.declared.request.Request.{Request}
use Rattle.can_timing.specs.declared.timing.Timing.{Timing}
use Rattle.can_timing.specs.Timings.{can_shape, clocks, quanta, has_rate, is_early, is_late, serves, timing_of}
use Rattle.can_timing.specs.Judged.{is_outside, misses_point, mixed, refutes, refutes_rate, refutes_point, verdict_from, legal, can_meaning}

-- ---- tests

bool_split : (b : Bool) → (b ≡ true) ⊎ (b ≡ false)
bool_split true = inl refl
bool_split false = inr refl

not_true : (b : Bool) → not b ≡ true → b ≡ false
not_true true h = cc
not_true false h = refl

and_false : (a b : Bool) → (a && b) ≡ false → (a ≡ false) ⊎ (b ≡ false)
and_false true b h = inr h
and_false false b h = inl refl

or_true : (a b : Bool) → (a || b) ≡ true → (a ≡ true) ⊎ (b ≡ true)
or_true true b h = inl refl
or_true false b h = inr h

or_false : (a b : Bool) → (a || b) ≡ false → (a ≡ false) × (b ≡ false)
or_false true b h = cc
or_false false b h = (refl, h)

-- ---- timings below one another

pub record IsBelow (a b : Timing) : Type 0 where
  pub brp : a.brp ≤ b.brp
  pub bs1 : a.bs1 ≤ b.bs1
  pub bs2 : a.bs2 ≤ b.bs2

fewer_clocks : (a b : Timing) → IsBelow a b → clocks a ≤ clocks b
fewer_clocks a b l = mul-le a.brp (quanta a) b.brp (quanta b) l.brp (omega (arith, l.bs1, l.bs2))

-- n = rate * mid * den lies between
between : (n rate low mid high den : ℕ) → n ≡ (rate * mid) * den → low ≤ mid → mid ≤ high → ((rate * low) * den ≤ n * 1) × (n * 1 ≤ (rate * high) * den)
between n rate low mid high den e l h =
    let a : (rate * low) * den ≤ (rate * mid) * den = mul-le (rate * low) den (rate * mid) den (mul-le rate low rate mid (omega arith) l) (omega arith) in
    let b : (rate * mid) * den ≤ (rate * high) * den = mul-le (rate * mid) den (rate * high) den (mul-le rate mid rate high (omega arith) h) (omega arith) in
    (omega (arith, a, e), omega (arith, b, e))

no_rate : (q : Request) (a t b : Timing) → IsBelow a t → IsBelow t b → is_outside q a b ≡ true → has_rate q t ≡ true → ⊥
no_rate q a t b low high o h =
    let is : q.pclk.num ≡ (q.rate * clocks t) * q.pclk.den = grind (arith, nat_tests, h) in
    let w = between q.pclk.num q.rate (clocks a) (clocks t) (clocks b) q.pclk.den is (fewer_clocks a t low) (fewer_clocks t b high) in
    elim (and_false (leb ((q.rate * clocks a) * q.pclk.den) (q.pclk.num * 1)) (leb (q.pclk.num * 1) ((q.rate * clocks b) * q.pclk.den)) (not_true (leb ((q.rate * clocks a) * q.pclk.den) (q.pclk.num * 1) && leb (q.pclk.num * 1) ((q.rate * clocks b) * q.pclk.den)) o)) [
      | inl y ↦ let less : q.pclk.num * 1 < (q.rate * clocks a) * q.pclk.den = grind (arith, nat_tests, y) in absurd (omega (arith, w.0, less))
      | inr y ↦ let more : (q.rate * clocks b) * q.pclk.den < q.pclk.num * 1 = grind (arith, nat_tests, y) in absurd (omega (arith, w.1, more))
    ]

-- the sample point gets earlier with a shorter first segment, or a longer second one: with a and b quanta before and
-- behind it, d per mille of a quantum more than are left to it
stays_early : (a b c e d : ℕ) → a ≤ c → e ≤ b → 1 ≤ b → 1000 * c < d * (c + e) → 1000 * a < d * (a + b)
stays_early a b c e d l m one h = elim (cases_lt 1000 d) [
  | inl y ↦
      let more : 1000 * (a + b) ≤ d * (a + b) = mul-le 1000 (a + b) d (a + b) (omega (arith, y)) (omega arith) in
      omega (arith, more, one)
  | inr n ↦
      let f : ℕ = 1000 - d in
      let fd : f + d ≡ 1000 = omega (arith, n) in
      let few : f * a ≤ f * c = mul-le f a f c (omega arith) l in
      let many : d * e ≤ d * b = mul-le d e d b (omega arith) m in
      let all : f * c + d * c ≡ 1000 * c = sym (spread f d c) ∙ ap (λ k. k * c) fd in
      let here : f * a + d * a ≡ 1000 * a = sym (spread f d a) ∙ ap (λ k. k * a) fd in
      omega (arith, few, many, all, here, h)
]
  where
    spread : (f d c : ℕ) → (f + d) * c ≡ f * c + d * c
    spread f d c = omega arith

-- it gets later with a longer first segment, or a shorter second one
stays_late : (a b c e s : ℕ) → c ≤ a → b ≤ e → s * (c + e) < 1000 * c → s * (a + b) < 1000 * a
stays_late a b c e s l m h = elim (cases_lt s 1000) [
  | inl y ↦
      let f : ℕ = 1000 - s in
      let fs : f + s ≡ 1000 = omega (arith, y) in
      let many : f * c ≤ f * a = mul-le f c f a (omega arith) l in
      let few : s * b ≤ s * e = mul-le s b s e (omega arith) m in
      let all : f * c + s * c ≡ 1000 * c = sym (spread f s c) ∙ ap (λ k. k * c) fs in
      let here : f * a + s * a ≡ 1000 * a = sym (spread f s a) ∙ ap (λ k. k * a) fs in
      omega (arith, few, many, all, here, h)
  | inr n ↦
      let more : 1000 * (c + e) ≤ s * (c + e) = mul-le 1000 (c + e) s (c + e) (omega (arith, n)) (omega arith) in
      absurd (omega (arith, more, h))
]
  where
    spread : (f d c : ℕ) → (f + d) * c ≡ f * c + d * c
    spread f d c = omega arith

-- early by a tolerance
early_by : (a b c e p t : ℕ) → a ≤ c → e ≤ b → 1 ≤ b → 1000 * c + t * (c + e) < p * (c + e) → 1000 * a + t * (a + b) < p * (a + b)
early_by a b c e p t l m one h = elim (cases_lt t p) [
  | inl y ↦
      let d : ℕ = p - t in
      let dt : d + t ≡ p = omega (arith, y) in
      let there : d * (c + e) + t * (c + e) ≡ p * (c + e) = sym (spread d t (c + e)) ∙ ap (λ k. k * (c + e)) dt in
      let here : d * (a + b) + t * (a + b) ≡ p * (a + b) = sym (spread d t (a + b)) ∙ ap (λ k. k * (a + b)) dt in
      let less : 1000 * c < d * (c + e) = lessened (1000 * c) (t * (c + e)) (d * (c + e)) (p * (c + e)) there h in
      let more : 1000 * a < d * (a + b) = stays_early a b c e d l m one less in
      raised (1000 * a) (t * (a + b)) (d * (a + b)) (p * (a + b)) here more
  | inr n ↦
      let most : p * (c + e) ≤ t * (c + e) = mul-le p (c + e) t (c + e) (omega (arith, n)) (omega arith) in
      absurd (never (1000 * c) (t * (c + e)) (p * (c + e)) most h)
]
  where
    spread : (f d c : ℕ) → (f + d) * c ≡ f * c + d * c
    spread f d c = omega arith

    lessened : (x y z w : ℕ) → z + y ≡ w → x + y < w → x < z
    lessened x y z w k g = omega (arith, k, g)

    raised : (x y z w : ℕ) → z + y ≡ w → x < z → x + y < w
    raised x y z w k g = omega (arith, k, g)

    never : (x y w : ℕ) → w ≤ y → x + y < w → ⊥
    never x y w k g = absurd (omega (arith, k, g))

no_point : (q : Request) (a t b : Timing) → IsBelow a t → IsBelow t b → 1 ≤ t.bs2 → misses_point q a b ≡ true → is_early q t ≡ false → is_late q t ≡ false → ⊥
no_point q a t b low high one o e l = elim (or_true (is_early q (mixed b a)) (is_late q (mixed a b)) o) [
  | inl y ↦
      let there : 1000 * (1 + b.bs1) + q.tolerance * (1 + b.bs1 + a.bs2) < q.point * (1 + b.bs1 + a.bs2) = grind (arith, nat_tests, y) in
      let here : q.point * (1 + t.bs1 + t.bs2) ≤ 1000 * (1 + t.bs1) + q.tolerance * (1 + t.bs1 + t.bs2) = grind (arith, nat_tests, e) in
      let more = early_by (1 + t.bs1) t.bs2 (1 + b.bs1) a.bs2 q.point q.tolerance (omega (arith, high.bs1)) low.bs2 one there in
      absurd (omega (arith, here, more))
  | inr y ↦
      let there : (q.point + q.tolerance) * (1 + a.bs1 + b.bs2) < 1000 * (1 + a.bs1) = grind (arith, nat_tests, y) in
      let here : 1000 * (1 + t.bs1) ≤ (q.point + q.tolerance) * (1 + t.bs1 + t.bs2) = grind (arith, nat_tests, l) in
      let more = stays_late (1 + t.bs1) t.bs2 (1 + a.bs1) b.bs2 (q.point + q.tolerance) (omega (arith, low.bs1)) high.bs2 there in
      absurd (omega (arith, here, more))
]

-- ---- boxes of four runs

record InBox (box : List Run) (t : Timing) : Type 0 where
  low : IsBelow (timing_of (lows box)) t
  high : IsBelow t (timing_of (highs box))
  one : 1 ≤ t.bs2

in_box : (box : List Run) (choice : List ℕ) → IsBox can_shape box → LiesIn box choice → InBox box (timing_of choice)
in_box [] choice b i = absurd b
in_box (r ∷ []) choice b i = absurd b.2
in_box (r ∷ s ∷ []) choice b i = absurd b.2.2
in_box (r ∷ s ∷ u ∷ []) choice b i = absurd b.2.2.2
in_box (r ∷ s ∷ u ∷ v ∷ w ∷ rest) choice b i = absurd b.2.2.2.2
in_box (r ∷ s ∷ u ∷ v ∷ []) [] b i = absurd i
in_box (r ∷ s ∷ u ∷ v ∷ []) (x ∷ []) b i = absurd i.2
in_box (r ∷ s ∷ u ∷ v ∷ []) (x ∷ y ∷ []) b i = absurd i.2.2
in_box (r ∷ s ∷ u ∷ v ∷ []) (x ∷ y ∷ z ∷ []) b i = absurd i.2.2.2
in_box (r ∷ s ∷ u ∷ v ∷ []) (x ∷ y ∷ z ∷ k ∷ j ∷ rest) b i = absurd i.2.2.2.2
in_box (r ∷ s ∷ u ∷ v ∷ []) (x ∷ y ∷ z ∷ k ∷ []) b i = record {
  low = record { brp = omega (arith, i.0, i.2.0); bs1 = omega (arith, i.2.2.0); bs2 = omega (arith, i.2.2.2.0) };
  high = record { brp = omega (arith, i.1, i.2.1); bs1 = omega (arith, i.2.2.1); bs2 = omega (arith, i.2.2.2.1) };
  one = omega arith;
}

same_corners : (box : List Run) → IsBox can_shape box → is_single box ≡ true → timing_of (highs box) ≡ timing_of (lows box)
same_corners [] b h = absurd b
same_corners (r ∷ []) b h = absurd b.2
same_corners (r ∷ s ∷ []) b h = absurd b.2.2
same_corners (r ∷ s ∷ u ∷ []) b h = absurd b.2.2.2
same_corners (r ∷ s ∷ u ∷ v ∷ w ∷ rest) b h = absurd b.2.2.2.2
same_corners (r ∷ s ∷ u ∷ v ∷ []) b h =
    let h0 = and_both (leb r.high r.low) (is_single (s ∷ u ∷ v ∷ [])) h in
    let h1 = and_both (leb s.high s.low) (is_single (u ∷ v ∷ [])) h0.1 in
    let h2 = and_both (leb u.high u.low) (is_single (v ∷ [])) h1.1 in
    let h3 = and_both (leb v.high v.low) (is_single []) h2.1 in
    let c0 = at_both r.low r.high b.0 h0.0 in
    let c1 = at_both s.low s.high b.2.0 h1.0 in
    let c2 = at_both u.low u.high b.2.2.0 h2.0 in
    let c3 = at_both v.low v.high b.2.2.2.0 h3.0 in
    ap (λ n. timing_of (n ∷ s.high ∷ u.high ∷ v.high ∷ [])) c0 ∙ ap (λ n. timing_of (r.low ∷ n ∷ u.high ∷ v.high ∷ [])) c1
    ∙ ap (λ n. timing_of (r.low ∷ s.low ∷ n ∷ v.high ∷ [])) c2 ∙ ap (λ n. timing_of (r.low ∷ s.low ∷ u.low ∷ n ∷ [])) c3
  where
    at_both : (low high : ℕ) → low ≤ high → leb high low ≡ true → high ≡ low
    at_both low high l h = let m : high ≤ low = grind (arith, nat_tests, h) in omega (arith, l, m)

-- ---- the laws

pub shape_is : IsShape can_shape
shape_is = record {
  few = omega arith;
  positions = (omega arith, (omega arith, (omega arith, (omega arith, tt))));
  small = (omega arith, (omega arith, (omega arith, (omega arith, tt))));
  narrow = omega arith;
}

module _ (q : Request) where
  rate_none : (box : List Run) → IsBox can_shape box → refutes_rate q box ≡ true → (choice : List ℕ) → LiesIn box choice → legal q choice ≡ true → ⊥
  rate_none box b h choice i l =
      let t = timing_of choice in
      let w = in_box box choice b i in
      no_rate q (timing_of (lows box)) t (timing_of (highs box)) w.low w.high h (and_both (has_rate q t) (not (is_early q t) && not (is_late q t)) l).0

  point_none : (box : List Run) → IsBox can_shape box → refutes_point q box ≡ true → (choice : List ℕ) → LiesIn box choice → legal q choice ≡ true → ⊥
  point_none box b h choice i l =
      let t = timing_of choice in
      let w = in_box box choice b i in
      let p = and_both (not (is_early q t)) (not (is_late q t)) (and_both (has_rate q t) (not (is_early q t) && not (is_late q t)) l).1 in
      no_point q (timing_of (lows box)) t (timing_of (highs box)) w.low w.high w.one h (not_true (is_early q t) p.0) (not_true (is_late q t) p.1)

  by_number : (k : ℕ) (box : List Run) → refutes q (Limit k) box ≡ true → (refutes_rate q box ≡ true) ⊎ (refutes_point q box ≡ true)
  by_number k box h = elim (bool_split (k == 3)) [
    | inl y ↦ inl (sym (rw y refl) ∙ h)
    | inr n ↦ elim (bool_split (k == 4)) [
      | inl y ↦ inr (sym (rw n (rw y refl)) ∙ h)
      | inr o ↦ let e : false ≡ true = sym (rw n (rw o refl)) ∙ h in cc
    ]
  ]

  none_legal : (r : Reason) (box : List Run) → IsBox can_shape box → refutes q r box ≡ true → (choice : List ℕ) → LiesIn box choice → legal q choice ≡ true → ⊥
  none_legal (Hall class vars) box b h choice i l = let e : false ≡ true = h in cc
  none_legal (Limit k) box b h choice i l = elim (by_number k box h) [
    | inl y ↦ rate_none box b y choice i l
    | inr y ↦ point_none box b y choice i l
  ]

  bad_refutes : (rate point single : Bool) (box : List Run) (r : Reason) → refutes_rate q box ≡ rate → refutes_point q box ≡ point → verdict_from rate point single ≡ verdict.Bad r → refutes q r box ≡ true
  bad_refutes true point single box r e f h = let is : Limit 3 ≡ r = bad_is (Limit 3) r h in subst (λ x. refutes q x box ≡ true) is e
    where
      bad_is : (a b : Reason) → verdict.Bad a ≡ verdict.Bad b → a ≡ b
      bad_is a b k = cc
  bad_refutes false true single box r e f h = let is : Limit 4 ≡ r = bad_is (Limit 4) r h in subst (λ x. refutes q x box ≡ true) is f
    where
      bad_is : (a b : Reason) → verdict.Bad a ≡ verdict.Bad b → a ≡ b
      bad_is a b k = cc
  bad_refutes false false true box r e f h = cc
  bad_refutes false false false box r e f h = cc

  when_legal : (rate point single : Bool) → verdict_from rate point single ≡ verdict.Legal → (rate ≡ false) × (point ≡ false) × (single ≡ true)
  when_legal true point single h = cc
  when_legal false true single h = cc
  when_legal false false true h = (refl, refl, refl)
  when_legal false false false h = cc

  when_open : (rate point single : Bool) → verdict_from rate point single ≡ verdict.Open → single ≡ false
  when_open true point single h = cc
  when_open false true single h = cc
  when_open false false true h = cc
  when_open false false false h = refl

  -- where neither refutes the only choice, it serves
  one_serves : (t : Timing) → is_outside q t t ≡ false → misses_point q t t ≡ false → serves q t ≡ true
  one_serves t o p =
      let n = (q.rate * clocks t) * q.pclk.den in
      let inside = not_false (leb n (q.pclk.num * 1) && leb (q.pclk.num * 1) n) o in
      let ends = and_both (leb n (q.pclk.num * 1)) (leb (q.pclk.num * 1) n) inside in
      let low : n ≤ q.pclk.num * 1 = grind (arith, nat_tests, ends.0) in
      let high : q.pclk.num * 1 ≤ n = grind (arith, nat_tests, ends.1) in
      let is : q.pclk.num ≡ n = omega (arith, low, high) in
      let rate : has_rate q t ≡ true = grind (arith, nat_tests, is) in
      let neither = or_false (is_early q t) (is_late q t) p in
      rw (rate, neither.0, neither.1) refl
    where
      not_false : (b : Bool) → not b ≡ false → b ≡ true
      not_false true h = refl
      not_false false h = cc

  only_serves : (box : List Run) → IsBox can_shape box → refutes_rate q box ≡ false → refutes_point q box ≡ false → is_single box ≡ true → legal q (lows box) ≡ true
  only_serves box b r p s =
      let t = timing_of (lows box) in
      let same = same_corners box b s in
      one_serves t (subst (λ u. is_outside q t u ≡ false) same r) (subst (λ u. misses_point q t u ≡ false) same p)

  pub can_lawful : IsLawful (can_meaning q)
  can_lawful = record {
    is_shape = shape_is;
    none_legal = λ r box b h choice c i l. none_legal r box b h choice i l;
    bad_refutes = λ r box b h. bad_refutes (refutes_rate q box) (refutes_point q box) (is_single box) box r refl refl h;
    legal_is_one = λ box b h. let w = when_legal (refutes_rate q box) (refutes_point q box) (is_single box) h in (w.2, only_serves box b w.0 w.1 w.2);
    open_has_two = λ box b h. when_open (refutes_rate q box) (refutes_point q box) (is_single box) h;
  }
