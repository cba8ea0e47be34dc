use Rattle.std.proofs.Common.{rules, ◌≡◌, ℕ, ◌+◌, ◌<◌, List, [], ◌∷◌, ◌++◌, Bool, true, false, ◌||◌, not, length, refl, ap, subst, ◌∙◌, arith}
use Rattle.std.specs.List.{concat}
use Rattle.c_print.specs.declared.part.Part.TheVariants as part
use Rattle.c_print.specs.Text.{part_text, op_line, awaits_over, frame}
use Rattle.c_print.specs.Prefixes.{BeginsNone, FitsFrame}
use Rattle.c_print.proofs.LineLemmas.{frame_long}
use Rattle.c_print.proofs.WithinLemmas.{as_named, not_due}
use Rattle.c_print.proofs.ReadLemmas.{no_op_nor_return, return_not_due, no_close, past_end, is_text}
use Rattle.c_print.proofs.read.read_c.Goals as goal

nil : (xs : List ℕ) → length xs ≡ 0 → xs ≡ []
nil [] e = refl
nil (x ∷ xs) e = absurd (omega arith)

pub overflow_add-line : goal.overflow_add-line
overflow_add-line c =
    let long = frame_long c.in_ok-over.over c.in_ok-over.rest.now in
    let same : length c.args.text.now ≡ length (concat (frame c.in_ok-over.over) ++ c.in_ok-over.rest.now) = ap length c.in_ok-over.ensures.found in
    omega (arith, long, same, c.in_ok-ops.ensures.few, c.len.ensures, c.requires)

pub overflow_add-result : goal.overflow_add-result
overflow_add-result c =
    let long = frame_long c.in_ok-over.over c.in_ok-over.rest.now in
    let same : length c.args.text.now ≡ length (concat (frame c.in_ok-over.over) ++ c.in_ok-over.rest.now) = ap length c.in_ok-over.ensures.found in
    omega (arith, long, same, c.in_ok-ops.ensures.few, c.len.ensures, c.requires)

pub overflow_add-result-else-is_empty : goal.overflow_add-result-else-is_empty
overflow_add-result-else-is_empty c =
    let long = frame_long c.in_ok-over.over c.in_ok-over.rest.now in
    let same : length c.args.text.now ≡ length (concat (frame c.in_ok-over.over) ++ c.in_ok-over.rest.now) = ap length c.in_ok-over.ensures.found in
    omega (arith, long, same, c.in_ok-ops.ensures.few, c.len.ensures, c.requires)

-- over-drive is named by the third line and awaited by no access (the names of this goal's facts are a guess until the prover has seen it)
pub returns-then-not-are_due-clause-refused : goal.returns-then-not-are_due-clause-refused
returns-then-not-are_due-clause-refused c =
    let took = c.in_ok-ops.ensures in
    let many : c.len.result ≡ length c.in_ok-ops.ops.items = search rules in
    let out : (not c.in_ok-over.over || awaits_over c.in_ok-ops.ops.items) ≡ false = search rules in
    let apart = not_due c.in_ok-over.over (awaits_over c.in_ok-ops.ops.items) out in
    return_not_due c.args.text.now c.in_ok-ops.ops.items c.in_ok-over.rest.now c.in_ok-ops.rest.now (c.len.result + 7) took.fit apart.1
    (c.in_ok-over.ensures.found ∙ ap (λ (b : Bool). concat (frame b) ++ c.in_ok-over.rest.now) apart.0) took.is
    (subst (λ (b : Bool). BeginsNone op_line (FitsFrame b) c.in_ok-ops.rest.now) apart.0 took.no_more) (ap (λ (k : ℕ). k + 7) many)

pub returns-in_default-clause-refused : goal.returns-in_default-clause-refused
returns-in_default-clause-refused c =
    let took = c.in_ok-ops.ensures in
    let many : c.len.result ≡ length c.in_ok-ops.ops.items = search rules in
    let due : (not c.in_ok-over.over || awaits_over c.in_ok-ops.ops.items) ≡ true = search rules in
    let named : awaits_over c.in_ok-ops.ops.items ≡ c.in_ok-over.over = as_named c.in_ok-over.over (awaits_over c.in_ok-ops.ops.items) took.named due in
    no_op_nor_return c.in_ok-over.over c.args.text.now c.in_ok-ops.ops.items c.in_ok-over.rest.now c.in_ok-ops.rest.now (c.len.result + 7)
    took.fit named c.in_ok-over.ensures.found took.is took.no_more c.in_default.ensures (ap (λ (k : ℕ). k + 7) many)

pub returns-in_default-after-clause-refused : goal.returns-in_default-after-clause-refused
returns-in_default-after-clause-refused c =
    let took = c.in_ok-ops.ensures in
    let many : c.len.result ≡ length c.in_ok-ops.ops.items = search rules in
    let due : (not c.in_ok-over.over || awaits_over c.in_ok-ops.ops.items) ≡ true = search rules in
    let named : awaits_over c.in_ok-ops.ops.items ≡ c.in_ok-over.over = as_named c.in_ok-over.over (awaits_over c.in_ok-ops.ops.items) took.named due in
    no_close c.in_ok-over.over c.args.text.now c.in_ok-ops.ops.items c.in_ok-over.rest.now c.in_ok-ops.rest.now c.in-Some.rest.now (c.len.result + 7 + 1)
    took.fit named c.in_ok-over.ensures.found took.is c.in-Some.ensures c.in_default-after.ensures (ap (λ (k : ℕ). k + 7 + 1) many)

pub returns-else-is_empty-clause-refused : goal.returns-else-is_empty-clause-refused
returns-else-is_empty-clause-refused c =
    let took = c.in_ok-ops.ensures in
    let many : c.len.result ≡ length c.in_ok-ops.ops.items = search rules in
    let due : (not c.in_ok-over.over || awaits_over c.in_ok-ops.ops.items) ≡ true = search rules in
    let named : awaits_over c.in_ok-ops.ops.items ≡ c.in_ok-over.over = as_named c.in_ok-over.over (awaits_over c.in_ok-ops.ops.items) took.named due in
    let some : 0 < length c.in-Some-after.rest.now = search rules in
    past_end c.in_ok-over.over c.args.text.now c.in_ok-ops.ops.items c.in_ok-over.rest.now c.in_ok-ops.rest.now c.in-Some.rest.now c.in-Some-after.rest.now (c.len.result + 7 + 2)
    took.fit named c.in_ok-over.ensures.found took.is c.in-Some.ensures c.in-Some-after.ensures some (ap (λ (k : ℕ). k + 7 + 2) many)

pub returns-then-is_empty-clause-read : goal.returns-then-is_empty-clause-read
returns-then-is_empty-clause-read c =
    let took = c.in_ok-ops.ensures in
    let due : (not c.in_ok-over.over || awaits_over c.in_ok-ops.ops.items) ≡ true = search rules in
    let named : awaits_over c.in_ok-ops.ops.items ≡ c.in_ok-over.over = as_named c.in_ok-over.over (awaits_over c.in_ok-ops.ops.items) took.named due in
    let zero : length c.in-Some-after.rest.now ≡ 0 = search rules in
    let none : c.in-Some-after.rest.now ≡ [] = nil c.in-Some-after.rest.now zero in
    let last : c.in-Some.rest.now ≡ part_text part.Close ++ [] = c.in-Some-after.ensures ∙ ap (λ (xs : List ℕ). part_text part.Close ++ xs) none in (
      took.fit,
      is_text c.in_ok-over.over c.args.text.now c.in_ok-ops.ops.items c.in_ok-over.rest.now c.in_ok-ops.rest.now c.in-Some.rest.now named c.in_ok-over.ensures.found took.is c.in-Some.ensures last,
    )
