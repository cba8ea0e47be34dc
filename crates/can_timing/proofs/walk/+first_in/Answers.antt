use Rattle.std.proofs.Common.{◌≡◌, ℕ, List, true, false, Option, Some, sym, ap, subst, ◌∙◌, arith}
use Rattle.std.proofs.lemmas.Result.{IfOk-weaker}
use Rattle.choice_rank.specs.declared.variable.VarShape.{VarShape}
use Rattle.box_split.specs.Boxes.{Run, IsBox, is_single, low_of, lows, highs, size_of}
use Rattle.box_split.specs.BoxIn.{box_in}
use Rattle.box_split.specs.Paths.{lower, upper, split_from}
use Rattle.box_split.proofs.PathLemmas.{lower_box, upper_box}
use Rattle.search_api.proofs.PlaceLemmas.{split_open}
use Rattle.can_timing.specs.declared.request.Request.{Request}
use Rattle.can_timing.specs.declared.timing.Timing.{Timing}
use Rattle.can_timing.specs.Timings.{can_shape, timing_of}
use Rattle.can_timing.specs.Judged.{can_meaning, is_outside, misses_point, refutes_point, refutes_rate}
use Rattle.can_timing.specs.Walk.{IsFirst, IsWalked}
use Rattle.can_timing.proofs.WalkLemmas.{lower_less, none_found, one_is_first, point_refutes, rate_refutes, upper_less, walked_lower, walked_upper}
use Rattle.can_timing.proofs.walk.+first_in.Goals as goal

-- the tests of a box are those of its corners
outside : (q : Request) (box : List Run) (least greatest : Timing) (b c : _) → b ≡ is_outside q least greatest → least ≡ timing_of (lows box) → greatest ≡ timing_of (highs box) → b ≡ c → refutes_rate q box ≡ c
outside q box least greatest b c e l h t = sym (e ∙ ap (λ (x : Timing). is_outside q x greatest) l ∙ ap (λ (x : Timing). is_outside q (timing_of (lows box)) x) h) ∙ t

missing : (q : Request) (box : List Run) (least greatest : Timing) (b c : _) → b ≡ misses_point q least greatest → least ≡ timing_of (lows box) → greatest ≡ timing_of (highs box) → b ≡ c → refutes_point q box ≡ c
missing q box least greatest b c e l h t = sym (e ∙ ap (λ (x : Timing). misses_point q x greatest) l ∙ ap (λ (x : Timing). misses_point q (timing_of (lows box)) x) h) ∙ t

pub returns-then-is_outside : goal.returns-then-is_outside
returns-then-is_outside t c =
    let box = box_in can_shape c.args.b.now in
    let rate = outside c.args.q.now box c.least_in-least.result c.greatest_in-greatest.result c.is_outside.result true c.is_outside.ensures c.least_in-least.ensures c.greatest_in-greatest.ensures c.if-is_outside.true in
    rate_refutes c.args.q.now box c.requires.is_box c.args.out.now.items c.put_limit.new.out.items rate c.in_ok-put_limit.ensures

pub returns-then-misses_point : goal.returns-then-misses_point
returns-then-misses_point t c =
    let box = box_in can_shape c.args.b.now in
    let rate = outside c.args.q.now box c.least_in-least.result c.greatest_in-greatest.result c.is_outside.result false c.is_outside.ensures c.least_in-least.ensures c.greatest_in-greatest.ensures c.if-is_outside.false in
    let point = missing c.args.q.now box c.least_in-least.result c.greatest_in-greatest.result c.misses_point.result true c.misses_point.ensures c.least_in-least.ensures c.greatest_in-greatest.ensures c.if-misses_point.true in
    point_refutes c.args.q.now box c.requires.is_box c.args.out.now.items c.put_limit-then-misses_point.new.out.items rate point c.in_ok-put_limit-2.ensures

pub returns-in_default : goal.returns-in_default
returns-in_default t c =
    let box = box_in can_shape c.args.b.now in
    let rate = outside c.args.q.now box c.least_in-least.result c.greatest_in-greatest.result c.is_outside.result false c.is_outside.ensures c.least_in-least.ensures c.greatest_in-greatest.ensures c.if-is_outside.false in
    let point = missing c.args.q.now box c.least_in-least.result c.greatest_in-greatest.result c.misses_point.result false c.misses_point.ensures c.least_in-least.ensures c.greatest_in-greatest.ensures c.if-misses_point.false in
    let one : is_single box ≡ true = subst (λ (vs : List VarShape). is_single (box_in vs c.args.b.now) ≡ true) c.requires.shape (sym c.in_default.ensures.single) in
    let low : low_of can_shape box ≡ c.low.result = sym (c.low.ensures ∙ ap (λ (vs : List VarShape). low_of vs (box_in vs c.args.b.now)) c.requires.shape) in
    subst (IsFirst (can_meaning c.args.q.now) box) low (one_is_first c.args.q.now box c.requires.is_box rate point one)

-- what a half of the box is, whatever the name of the shape
half_is : (vs : List VarShape) (half : List Run → List Run) (b h : _) → vs ≡ can_shape → box_in vs h ≡ half (box_in vs b) → box_in can_shape h ≡ half (box_in can_shape b)
half_is vs half b h e k = subst (λ (ws : List VarShape). box_in ws h ≡ half (box_in ws b)) e k

split_is : (vs : List VarShape) (b : _) (v k : ℕ) → vs ≡ can_shape → ◌≡◌ {A = Option (ℕ × ℕ)} (Some (v, k)) (split_from 0 (box_in vs b)) → split_from 0 (box_in can_shape b) ≡ Some (v, k)
split_is vs b v k e s = sym (subst (λ (ws : List VarShape). ◌≡◌ {A = Option (ℕ × ℕ)} (Some (v, k)) (split_from 0 (box_in ws b))) e s)

pub first_in-requires : goal.first_in-requires
first_in-requires t c =
    let box = box_in can_shape c.args.b.now in
    let split = split_is c.args.s.now c.args.b.now c.in-Some.variable c.in-Some.after c.requires.shape c.in-Some.ensures.split in
    let half = half_is c.args.s.now lower c.args.b.now c.keep_lower.new.b c.requires.shape c.keep_lower.ensures.half in
    let two = split_open box c.in-Some.variable c.in-Some.after split in
    (omega (arith, ap size_of half, lower_less box c.requires.is_box two, c.decreases), (c.requires.shape, subst (IsBox can_shape) (sym half) (lower_box can_shape box c.requires.is_box)))

pub returns-then-is_some : goal.returns-then-is_some
returns-then-is_some t c =
    let m = can_meaning c.args.q.now in
    let box = box_in can_shape c.args.b.now in
    let split = split_is c.args.s.now c.args.b.now c.in-Some.variable c.in-Some.after c.requires.shape c.in-Some.ensures.split in
    let half = half_is c.args.s.now lower c.args.b.now c.keep_lower.new.b c.requires.shape c.keep_lower.ensures.half in
    let two = split_open box c.in-Some.variable c.in-Some.after split in
    let walked = subst (λ (x : List Run). IsWalked m x c.put_split.new.out.items c.first_in.new.out.items c.in_ok-found.found) half c.in_ok-found.ensures in
    walked_lower c.args.q.now box c.requires.is_box two c.args.out.now.items c.put_split.new.out.items c.first_in.new.out.items c.in_ok-found.found (sym c.is_some.ensures ∙ c.if-is_some.true) walked

pub first_in-requires-2 : goal.first_in-requires-2
first_in-requires-2 t c =
    let box = box_in can_shape c.args.b.now in
    let split = split_is c.args.s.now c.args.b.now c.in-Some.variable c.in-Some.after c.requires.shape c.in-Some.ensures.split in
    let half = half_is c.args.s.now upper c.args.b.now c.keep_upper.new.b c.requires.shape c.keep_upper.ensures.half in
    let two = split_open box c.in-Some.variable c.in-Some.after split in
    (omega (arith, ap size_of half, upper_less box c.requires.is_box two, c.decreases), (c.requires.shape, subst (IsBox can_shape) (sym half) (upper_box can_shape box c.requires.is_box)))

pub returns : goal.returns
returns t c =
    let q = c.args.q.now in
    let m = can_meaning q in
    let box = box_in can_shape c.args.b.now in
    let rate = outside q box c.least_in-least.result c.greatest_in-greatest.result c.is_outside.result false c.is_outside.ensures c.least_in-least.ensures c.greatest_in-greatest.ensures c.if-is_outside.false in
    let point = missing q box c.least_in-least.result c.greatest_in-greatest.result c.misses_point.result false c.misses_point.ensures c.least_in-least.ensures c.greatest_in-greatest.ensures c.if-misses_point.false in
    let split = split_is c.args.s.now c.args.b.now c.in-Some.variable c.in-Some.after c.requires.shape c.in-Some.ensures.split in
    let low_half = half_is c.args.s.now lower c.args.b.now c.keep_lower.new.b c.requires.shape c.keep_lower.ensures.half in
    let high_half = half_is c.args.s.now upper c.args.b.now c.keep_upper.new.b c.requires.shape c.keep_upper.ensures.half in
    let before = c.args.out.now.items in
    let line = c.put_split.new.out.items in
    let between = c.first_in.new.out.items in
    let low : IsWalked m (lower box) line between c.in_ok-found.found = subst (λ (x : List Run). IsWalked m x line between c.in_ok-found.found) low_half c.in_ok-found.ensures in
    let none = none_found q box c.requires.is_box (lower box) line between c.in_ok-found.found (sym c.is_some.ensures ∙ c.if-is_some.false) low in
    IfOk-weaker c.first_in-2.result _ _ (λ found w. walked_upper q box c.requires.is_box rate point c.in-Some.variable c.in-Some.after before line between c.first_in-2.new.out.items found split c.in_ok-put_split.ensures none
    (subst (λ (x : List Run). IsWalked m x between c.first_in-2.new.out.items found) high_half w)) c.first_in-2.ensures
