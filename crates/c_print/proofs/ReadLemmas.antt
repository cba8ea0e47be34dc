-- Where a text departs from every C text, and that a text has one reading.
use Rattle.std.proofs.Common.{◌≡◌, ◌≢◌, ℕ, zero, suc, ◌+◌, ◌-◌, ◌<◌, ◌≤◌, List, [], ◌∷◌, ◌++◌, Bool, true, false, ◌||◌, length, take, drop, get_or, ◌⊎◌, inl, inr, refl, sym, ap, subst, ◌∙◌, arith}
use Rattle.std.specs.Prelude.{map, Result, Ok, Err}
use Rattle.std.specs.List.{concat}
use Rattle.std.proofs.lemmas.List.{append-nil, take-take}
use Rattle.res_base.specs.Lists.{Each}
use Rattle.reg_machine.specs.declared.op.Op.{Op}
use Rattle.c_print.specs.declared.part.Part.TheVariants as part
use Rattle.reg_machine.specs.declared.op.Op.TheVariants as op
use Rattle.reg_machine.specs.declared.op.Timeout.TheVariants as timeout
use Rattle.reg_map.specs.declared.register.Reg.TheVariants as reg
use Rattle.c_print.specs.Text.{part_text, op_line, is_over_op, awaits_over, frame, last_lines, body_lines, c_lines, c_text_of}
use Rattle.c_print.specs.Reading.{FitsLine, lines_of, AgreesFor, DepartsAt, Reads}
use Rattle.c_print.specs.Prefixes.{BeginsNone, IsFrameLine, FitsFrame}
use Rattle.c_print.proofs.FrameLemmas.{same_frame}
use Rattle.c_print.proofs.LineLemmas.{op_apart, not_return, joined, after_frame_lines, frame_prefix, ops_then_lines, return_then, close_then, text_parts, text_lines}

-- ---- six lines more, and a line for each op more
abbrev six : ℕ → ℕ
six n = suc (suc (suc (suc (suc (suc n)))))

abbrev past_ops : List Op → ℕ → ℕ
past_ops [] k = k
past_ops (o ∷ os) k = suc (past_ops os k)

past_ops_is : (ops : List Op) (k : ℕ) → past_ops ops k ≡ length ops + k
past_ops_is [] k = omega arith
past_ops_is (o ∷ os) k = omega (arith, past_ops_is os k)

frame_cancel : (a b : Bool) (n : ℕ) (ls ms : List (List ℕ)) → take (six n) (frame a ++ ls) ≡ take (six n) (frame b ++ ms) → (a ≡ b) × (take n ls ≡ take n ms)
frame_cancel a b n ls ms e = (same_frame b a (ap (λ xs. get_or xs 2 []) e), ap (λ xs. drop 6 xs) e)

frame_same : (over : Bool) (n : ℕ) (ls ms : List (List ℕ)) → take n ls ≡ take n ms → take (six n) (frame over ++ ls) ≡ take (six n) (frame over ++ ms)
frame_same over n ls ms e = ap (λ xs. frame over ++ xs) e

ops_same : (ops : List Op) (k : ℕ) (ls ms : List (List ℕ)) → take k ls ≡ take k ms → take (past_ops ops k) (map op_line ops ++ ls) ≡ take (past_ops ops k) (map op_line ops ++ ms)
ops_same [] k ls ms e = e
ops_same (o ∷ os) k ls ms e = ap (λ xs. op_line o ∷ xs) (ops_same os k ls ms e)

-- no ops go on as these lines do, where over-drive was awaited before or is awaited by them as the third line says
abbrev GoesOnAsNone : Bool → Bool → ℕ → List (List ℕ) → Type 0
GoesOnAsNone before over k ls = (others : List Op) → Each FitsLine others → (before || awaits_over others) ≡ over → take k ls ≢ take k (body_lines others)

head_same : (x y : List ℕ) (xs ys : List (List ℕ)) → x ∷ xs ≡ y ∷ ys → (x ≡ y) × (xs ≡ ys)
head_same x y xs ys e = let first : x ≡ y = cc in let rest : xs ≡ ys = cc in (first, rest)

or_assoc : (a b c : Bool) → (a || (b || c)) ≡ ((a || b) || c)
or_assoc true b c = refl
or_assoc false b c = refl

-- a line is that of one op
same_op : (o p : Op) → FitsLine o → FitsLine p → op_line o ≡ op_line p → o ≡ p
same_op o p f g e = (op_apart o p [] [] f g (append-nil (op_line o) ∙ e ∙ sym (append-nil (op_line p)))).0

-- the lines of the ops are those of the others, one by one
lockstep : (before over : Bool) (ops : List Op) (k : ℕ) (ls : List (List ℕ)) → Each FitsLine ops → GoesOnAsNone (before || awaits_over ops) over k ls → GoesOnAsNone before over (past_ops ops k) (map op_line ops ++ ls)
lockstep before over [] k ls fit none others f o e = none others f (ap (λ b. b || awaits_over others) (or_none before) ∙ o) e
  where
    or_none : (b : Bool) → (b || false) ≡ b
    or_none true = refl
    or_none false = refl
lockstep before over (o ∷ os) k ls fit none [] f w e =
    not_return o (head_same (op_line o) (part_text part.Return) (take (past_ops os k) (map op_line os ++ ls)) (take (past_ops os k) (part_text part.Close ∷ [])) e).0
lockstep before over (o ∷ os) k ls fit none (p ∷ ps) f w e =
    let two = head_same (op_line o) (op_line p) (take (past_ops os k) (map op_line os ++ ls)) (take (past_ops os k) (body_lines ps)) e in
    let same = same_op o p fit.0 f.0 two.0 in
    let none_from : GoesOnAsNone ((before || is_over_op o) || awaits_over os) over k ls = subst (λ b. GoesOnAsNone b over k ls) (or_assoc before (is_over_op o) (awaits_over os)) none in
    lockstep (before || is_over_op o) over os k ls fit.1 none_from ps f.1
    (ap (λ (x : Op). (before || is_over_op x) || awaits_over ps) same ∙ sym (or_assoc before (is_over_op p) (awaits_over ps)) ∙ w) two.1

-- ---- a text that departs behind the lines of ops
record IsBody (over : Bool) (text : List ℕ) (ops : List Op) (rest : List ℕ) : Type 0 where
  fit : Each FitsLine ops
  lines : lines_of text ≡ frame over ++ (map op_line ops ++ lines_of rest)

body_of : (over : Bool) (text : List ℕ) (ops : List Op) (body rest : List ℕ) → Each FitsLine ops → text ≡ concat (frame over) ++ body → body ≡ concat (map op_line ops) ++ rest → IsBody over text ops rest
body_of over text ops body rest f t b = record {
  fit = f;
  lines = ap lines_of t ∙ after_frame_lines over body ∙ ap (λ xs. frame over ++ lines_of xs) b ∙ ap (λ ls. frame over ++ ls) (ops_then_lines ops rest f);
}

-- the others of a text that agrees would go on as none does
differs_behind : (over : Bool) (text : List ℕ) (ops : List Op) (rest : List ℕ) (k : ℕ) → IsBody over text ops rest → GoesOnAsNone (awaits_over ops) over k (lines_of rest) → AgreesFor (six (past_ops ops k)) text → ⊥
differs_behind over text ops rest k b none a =
    let same = frame_cancel over (awaits_over a.0) (past_ops ops k) (map op_line ops ++ lines_of rest) (body_lines a.0) (ap (λ ls. take (six (past_ops ops k)) ls) (sym b.lines) ∙ a.2) in
    lockstep false over ops k (lines_of rest) b.fit none a.0 a.1 (sym same.0) same.1

departs_behind : (over : Bool) (text : List ℕ) (ops : List Op) (rest : List ℕ) (k line : ℕ) → IsBody over text ops rest → awaits_over ops ≡ over → line ≡ length ops + 7 + k → take k (lines_of rest) ≡ take k last_lines → GoesOnAsNone (awaits_over ops) over (suc k) (lines_of rest) → DepartsAt line text
departs_behind over text ops rest k line b w n same none =
    let one : line - 1 ≡ six (past_ops ops k) = let p = past_ops_is ops k in omega (arith, p, n) in
    let two : line ≡ six (past_ops ops (suc k)) = let p = past_ops_is ops (suc k) in omega (arith, p, n) in
    record {
      from_one = omega (arith, n);
      before = subst (λ m. AgreesFor m text) (sym one) (
        ops,
        b.fit,
        ap (λ ls. take (six (past_ops ops k)) ls) b.lines ∙ frame_same over (past_ops ops k) (map op_line ops ++ lines_of rest) (body_lines ops) (ops_same ops k (lines_of rest) last_lines same)
            ∙ ap (λ o. take (six (past_ops ops k)) (frame o ++ body_lines ops)) (sym w),
      );
      not_here = λ a. differs_behind over text ops rest (suc k) b none (subst (λ m. AgreesFor m text) two a);
    }

-- a text whose first line is l begins with l
first_line : (l rest : List ℕ) → take 1 (lines_of rest) ≡ l ∷ [] → (more : List ℕ) × (rest ≡ l ++ more)
first_line l rest e = let r = split (lines_of rest) e in (concat r.0, sym (joined rest) ∙ ap concat r.1)
  where
    split : (ls : List (List ℕ)) → take 1 ls ≡ l ∷ [] → (ms : List (List ℕ)) × (ls ≡ l ∷ ms)
    split [] e = absurd cc
    split (m ∷ ms) e = (ms, ap (λ x. x ∷ ms) (head_same m l [] [] e).0)

NoText : List ℕ → List ℕ → Type 0
NoText l text = (rest : List ℕ) → text ≡ l ++ rest → ⊥

-- an op that the third line allows
allowed : (before over : Bool) (p : Op) (ps : List Op) → FitsLine p → (before || awaits_over (p ∷ ps)) ≡ over → FitsFrame over p
allowed before over p ps f w = record { line = f; named = λ none. right_none (is_over_op p) (awaits_over ps) (or_none before (is_over_op p || awaits_over ps) (w ∙ none)) }
  where
    or_none : (a b : Bool) → (a || b) ≡ false → b ≡ false
    or_none true b h = absurd cc
    or_none false b h = h

    right_none : (a b : Bool) → (a || b) ≡ false → a ≡ false
    right_none true b h = absurd cc
    right_none false b h = refl

-- neither an op nor the line behind them
pub no_op_nor_return : (over : Bool) (text : List ℕ) (ops : List Op) (body rest : List ℕ) (line : ℕ) → Each FitsLine ops → awaits_over ops ≡ over → text ≡ concat (frame over) ++ body → body ≡ concat (map op_line ops) ++ rest → BeginsNone op_line (FitsFrame over) rest → ((more : List ℕ) → rest ≢ part_text part.Return ++ more) → line ≡ length ops + 7 → DepartsAt line text
no_op_nor_return over text ops body rest line f w t b no_op no_return n =
    departs_behind over text ops rest 0 line (body_of over text ops body rest f t b) w (omega (arith, n)) refl none
  where
    none : GoesOnAsNone (awaits_over ops) over 1 (lines_of rest)
    none [] g o e = let r = first_line (part_text part.Return) rest e in no_return r.0 r.1
    none (p ∷ ps) g o e = let r = first_line (op_line p) rest e in no_op p r.0 (allowed (awaits_over ops) over p ps g.0 o) r.1

-- an await of over-drive
late : Op
late = op.Await reg.PwrCsr 0 0 1 timeout.Over

late_fits : FitsLine late
unfolding late
late_fits = (tt, omega arith, omega arith, omega arith, omega arith)

-- a third line that names over-drive, and no op that awaits it: the line behind them is not due
pub return_not_due : (text : List ℕ) (ops : List Op) (body rest : List ℕ) (line : ℕ) → Each FitsLine ops → awaits_over ops ≡ false → text ≡ concat (frame true) ++ body → body ≡ concat (map op_line ops) ++ rest → BeginsNone op_line (FitsFrame true) rest → line ≡ length ops + 7 → DepartsAt line text
unfolding late
return_not_due text ops body rest line f w t b no_op n =
    let is = body_of true text ops body rest f t b in
    let one : line - 1 ≡ six (past_ops ops 0) = let p = past_ops_is ops 0 in omega (arith, p, n) in
    let two : line ≡ six (past_ops ops 1) = let p = past_ops_is ops 1 in omega (arith, p, n) in
    record {
      from_one = omega (arith, n);
      before = subst (λ m. AgreesFor m text) (sym one) (
        ops ++ late ∷ [],
        with_late ops f,
        ap (λ ls. take (six (past_ops ops 0)) ls) is.lines
            ∙ frame_same true (past_ops ops 0) (map op_line ops ++ lines_of rest) (body_lines (ops ++ late ∷ [])) (prefix_same ops (lines_of rest))
            ∙ ap (λ o. take (six (past_ops ops 0)) (frame o ++ body_lines (ops ++ late ∷ []))) (sym (is_awaited ops)),
      );
      not_here = λ a. differs_behind true text ops rest 1 is none (subst (λ m. AgreesFor m text) two a);
    }
  where
    with_late : (os : List Op) → Each FitsLine os → Each FitsLine (os ++ late ∷ [])
    with_late [] g = (late_fits, tt)
    with_late (o ∷ os) g = (g.0, with_late os g.1)

    is_awaited : (os : List Op) → awaits_over (os ++ late ∷ []) ≡ true
    is_awaited [] = refl
    is_awaited (o ∷ os) = ap (λ b. is_over_op o || b) (is_awaited os) ∙ or_true (is_over_op o)
      where
        or_true : (b : Bool) → (b || true) ≡ true
        or_true true = refl
        or_true false = refl

    prefix_same : (os : List Op) (ls : List (List ℕ)) → take (past_ops os 0) (map op_line os ++ ls) ≡ take (past_ops os 0) (body_lines (os ++ late ∷ []))
    prefix_same [] ls = refl
    prefix_same (o ∷ os) ls = ap (λ xs. op_line o ∷ xs) (prefix_same os ls)

    none : GoesOnAsNone (awaits_over ops) true 1 (lines_of rest)
    none [] g o e = let z : false ≡ true = sym (ap (λ b. b || false) w) ∙ o in absurd cc
    none (p ∷ ps) g o e = let r = first_line (op_line p) rest e in no_op p r.0 (allowed (awaits_over ops) true p ps g.0 o) r.1

pub no_close : (over : Bool) (text : List ℕ) (ops : List Op) (body rest last : List ℕ) (line : ℕ) → Each FitsLine ops → awaits_over ops ≡ over → text ≡ concat (frame over) ++ body → body ≡ concat (map op_line ops) ++ rest → rest ≡ part_text part.Return ++ last → ((more : List ℕ) → last ≢ part_text part.Close ++ more) → line ≡ length ops + 7 + 1 → DepartsAt line text
no_close over text ops body rest last line f w t b r missing n =
    departs_behind over text ops rest 1 line (body_of over text ops body rest f t b) w n (ap (take 1) lines) (λ others g o e. none others g (sym (ap (take 2) lines) ∙ e))
  where
    lines : lines_of rest ≡ part_text part.Return ∷ lines_of last
    lines = ap lines_of r ∙ return_then last

    none : (others : List Op) → Each FitsLine others → take 2 (part_text part.Return ∷ lines_of last) ≢ take 2 (body_lines others)
    none [] g e =
        let q = first_line (part_text part.Close) last (head_same (part_text part.Return) (part_text part.Return) (take 1 (lines_of last)) (part_text part.Close ∷ []) e).1 in
        missing q.0 q.1
    none (p ∷ ps) g e = not_return p (sym (head_same (part_text part.Return) (op_line p) (take 1 (lines_of last)) (take 1 (body_lines ps)) e).0)

pub past_end : (over : Bool) (text : List ℕ) (ops : List Op) (body rest last more : List ℕ) (line : ℕ) → Each FitsLine ops → awaits_over ops ≡ over → text ≡ concat (frame over) ++ body → body ≡ concat (map op_line ops) ++ rest → rest ≡ part_text part.Return ++ last → last ≡ part_text part.Close ++ more → 0 < length more → line ≡ length ops + 7 + 2 → DepartsAt line text
past_end over text ops body rest last more line f w t b r c some n =
    departs_behind over text ops rest 2 line (body_of over text ops body rest f t b) w n (ap (take 2) lines) (λ others g o e. none others g (sym (ap (take 3) lines) ∙ e))
  where
    lines : lines_of rest ≡ part_text part.Return ∷ (part_text part.Close ∷ lines_of more)
    lines = ap lines_of r ∙ return_then last ∙ ap (λ xs. part_text part.Return ∷ lines_of xs) c ∙ ap (λ ls. part_text part.Return ∷ ls) (close_then more)

    no_lines : (more : List ℕ) → 0 < length more → take 1 (lines_of more) ≡ [] → ⊥
    no_lines [] some e = omega (arith, some)
    no_lines (c ∷ cs) some e = let j : concat (lines_of (c ∷ cs)) ≡ c ∷ cs = joined (c ∷ cs) in let z : [] ≡ c ∷ cs = ap concat (sym (nil (lines_of (c ∷ cs)) e)) ∙ j in cc
      where
        nil : (ls : List (List ℕ)) → take 1 ls ≡ [] → ls ≡ []
        nil [] e = refl
        nil (l ∷ ls) e = absurd cc

    none : (others : List Op) → Each FitsLine others → take 3 (part_text part.Return ∷ (part_text part.Close ∷ lines_of more)) ≢ take 3 (body_lines others)
    none [] g e =
        let q = (head_same (part_text part.Return) (part_text part.Return) (part_text part.Close ∷ take 1 (lines_of more)) (part_text part.Close ∷ []) e).1 in
        no_lines more some (head_same (part_text part.Close) (part_text part.Close) (take 1 (lines_of more)) [] q).1
    none (p ∷ ps) g e = not_return p (sym (head_same (part_text part.Return) (op_line p) (part_text part.Close ∷ take 1 (lines_of more)) (take 2 (body_lines ps)) e).0)

-- ---- a text that departs within the frame
take_prefix : (n : ℕ) (xs ys zs : List (List ℕ)) → n ≤ length xs → take n (take n xs ++ ys) ≡ take n (xs ++ zs)
take_prefix zero xs ys zs l = refl
take_prefix (suc n) [] ys zs l = absurd (omega arith)
take_prefix (suc n) (x ∷ xs) ys zs l = ap (λ ls. x ∷ ls) (take_prefix n xs ys zs (omega arith))

place_line : (n : ℕ) (xs xs' ys zs : List (List ℕ)) → n < length xs → n < length xs' → take (suc n) (take n xs ++ ys) ≡ take (suc n) (xs' ++ zs) → (take n xs' ≡ take n xs) × (take 1 ys ≡ get_or xs' n [] ∷ [])
place_line n [] xs' ys zs l m e = absurd (omega arith)
place_line n (x ∷ xs) [] ys zs l m e = absurd (omega arith)
place_line zero (x ∷ xs) (x' ∷ xs') ys zs l m e = (refl, e)
place_line (suc n) (x ∷ xs) (x' ∷ xs') ys zs l m e =
    let two = head_same x x' (take (suc n) (take n xs ++ ys)) (take (suc n) (xs' ++ zs)) e in
    let more = place_line n xs xs' ys zs (omega arith) (omega arith) two.1 in
    (ap (λ y. y ∷ take n xs') (sym two.0) ∙ ap (λ ls. x ∷ ls) more.0, more.1)

pub within_frame : (over : Bool) (text : List ℕ) (place : ℕ) (rest : List ℕ) (line : ℕ) → place < 6 → text ≡ concat (take place (frame over)) ++ rest → ((next : Bool) (more : List ℕ) → IsFrameLine place over rest next more → ⊥) → line ≡ place + 1 → DepartsAt line text
unfolding late
within_frame over text place rest line l t none n =
    let one : line - 1 ≡ place = omega (arith, n) in
    let two : line ≡ suc place = omega (arith, n) in
    record {
      from_one = omega (arith, n);
      before = subst (λ m. AgreesFor m text) (sym one) (agrees over t);
      not_here = λ a. differs (subst (λ m. AgreesFor m text) two a);
    }
  where
    lines : (o : Bool) → text ≡ concat (take place (frame o)) ++ rest → lines_of text ≡ take place (frame o) ++ lines_of rest
    lines o e = ap lines_of e ∙ frame_prefix o place rest

    agrees : (o : Bool) → text ≡ concat (take place (frame o)) ++ rest → AgreesFor place text
    agrees true e = (late ∷ [], (late_fits, tt), ap (take place) (lines true e) ∙ take_prefix place (frame true) (lines_of rest) (body_lines (late ∷ [])) (omega (arith, l)))
    agrees false e = ([], tt, ap (take place) (lines false e) ∙ take_prefix place (frame false) (lines_of rest) last_lines (omega (arith, l)))

    differs : AgreesFor (suc place) text → ⊥
    differs a =
        let next = awaits_over a.0 in
        let here = place_line place (frame over) (frame next) (lines_of rest) (body_lines a.0) (omega (arith, l)) (omega (arith, l)) (sym (ap (take (suc place)) (lines over t)) ∙ a.2) in
        let r = first_line (get_or (frame next) place []) rest here.1 in
        none next r.0 (here.0, r.1)

-- ---- a C text
pub is_text : (over : Bool) (text : List ℕ) (ops : List Op) (body rest last : List ℕ) → awaits_over ops ≡ over → text ≡ concat (frame over) ++ body → body ≡ concat (map op_line ops) ++ rest → rest ≡ part_text part.Return ++ last → last ≡ part_text part.Close ++ [] → c_text_of ops ≡ text
is_text over text ops body rest last w t b r c =
    text_parts ops
    ∙ ap (λ o. concat (frame o) ++ (concat (map op_line ops) ++ (part_text part.Return ++ (part_text part.Close ++ [])))) w
    ∙ ap (λ xs. concat (frame over) ++ (concat (map op_line ops) ++ (part_text part.Return ++ xs))) (sym c)
    ∙ ap (λ xs. concat (frame over) ++ (concat (map op_line ops) ++ xs)) (sym r)
    ∙ ap (λ xs. concat (frame over) ++ xs) (sym b) ∙ sym t

-- ---- one reading
same_bodies : (ops others : List Op) → Each FitsLine ops → Each FitsLine others → body_lines ops ≡ body_lines others → ops ≡ others
same_bodies [] [] f g e = refl
same_bodies [] (p ∷ ps) f g e = absurd (not_return p (sym (head_same (part_text part.Return) (op_line p) (part_text part.Close ∷ []) (body_lines ps) e).0))
same_bodies (o ∷ os) [] f g e = absurd (not_return o (head_same (op_line o) (part_text part.Return) (body_lines os) (part_text part.Close ∷ []) e).0)
same_bodies (o ∷ os) (p ∷ ps) f g e =
    let two = head_same (op_line o) (op_line p) (body_lines os) (body_lines ps) e in
    let same = op_apart o p [] [] f.0 g.0 (append-nil (op_line o) ∙ two.0 ∙ sym (append-nil (op_line p))) in
    ap (λ x. x ∷ os) same.0 ∙ ap (λ xs. p ∷ xs) (same_bodies os ps f.1 g.1 two.1)

same_ops : (ops others : List Op) → Each FitsLine ops → Each FitsLine others → c_text_of ops ≡ c_text_of others → ops ≡ others
same_ops ops others f g e =
    same_bodies ops others f g (ap (λ xs. drop 6 xs) (sym (text_lines ops f) ∙ ap lines_of e ∙ text_lines others g))

-- a C text departs nowhere
never : (text : List ℕ) (ops : List Op) (line : ℕ) → Each FitsLine ops → c_text_of ops ≡ text → DepartsAt line text → ⊥
never text ops line f e d = d.not_here (ops, f, ap (λ xs. take line (lines_of xs)) (sym e) ∙ ap (take line) (text_lines ops f))

-- what agrees for more lines agrees for fewer
fewer : (text : List ℕ) (n m : ℕ) → n ≤ m → AgreesFor m text → AgreesFor n text
fewer text n m l a = (a.0, a.1, sym (take-take n m (lines_of text) l) ∙ ap (take n) a.2 ∙ take-take n m (c_lines a.0) l)

order : (n m : ℕ) → (n ≡ m) ⊎ ((n < m) ⊎ (m < n))
order n m = grind arith

same_line : (text : List ℕ) (n m : ℕ) → DepartsAt n text → DepartsAt m text → n ≡ m
same_line text n m d e = elim (order n m) [
  | inl s ↦ s
  | inr k ↦ elim k [
    | inl l ↦ absurd (d.not_here (fewer text n (m - 1) (omega arith) e.before))
    | inr l ↦ absurd (e.not_here (fewer text m (n - 1) (omega arith) d.before))
  ]
]

pub one_reading : (text : List ℕ) (read other : Result (List Op) ℕ) → Reads text read → Reads text other → read ≡ other
one_reading text (Ok a) (Ok b) r s = ap Ok (same_ops a b r.0 s.0 (r.1 ∙ sym s.1))
one_reading text (Ok a) (Err n) r s = absurd (never text a n r.0 r.1 s)
one_reading text (Err n) (Ok b) r s = absurd (never text b n s.0 s.1 r)
one_reading text (Err n) (Err m) r s = ap Err (same_line text n m r s)

pub read_again : (ops : List Op) → Each FitsLine ops → Reads (c_text_of ops) (Ok ops)
read_again ops f = (f, refl)

pub read_alone : (ops : List Op) (read : Result (List Op) ℕ) → Each FitsLine ops → Reads (c_text_of ops) read → read ≡ Ok ops
read_alone ops read f r = one_reading (c_text_of ops) read (Ok ops) r (read_again ops f)
