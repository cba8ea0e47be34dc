use Rattle.std.proofs.Common.{◌≡◌, ℕ, List, [], ◌++◌, Some, None, sym, ap, ◌∙◌, arith}
use Rattle.std.specs.Option.{option_map, option_copied}
use Rattle.res_base.specs.VarSet.{in_set}
use Rattle.refutation.specs.Forms.{HallForm, below_in, members}
use Rattle.refutation.specs.Reading.{fields, more_fields, variables_from, hall_form}
use Rattle.refutation.proofs.FormLemmas.{append_nil, below_none, none_read}
use Rattle.refutation.proofs.read.hall_of.Goals as goal

pub returns-in_default-put_next : goal.returns-in_default-put_next
unfolding hall_form
returns-in_default-put_next c =
    let least = c.loop-rest.least in
    let before = below_in least (in_set c.loop-rest.vars) in
    let field = c.first_field.result.0.now in
    let more = more_fields (option_copied c.first_field.result.1) in
    let here : variables_from 0 (fields c.args.text.now) ≡ option_map (λ (vs : List ℕ). before ++ vs) (variables_from least (fields c.in-Some.text.now)) = rw c.in-Some.is at c.loop-rest.invariant.same in
    let none : variables_from 0 (fields c.args.text.now) ≡ None =
    here ∙ ap (λ (fs : List (List ℕ)). option_map (λ (vs : List ℕ). before ++ vs) (variables_from least fs)) c.first_field.ensures.field ∙ none_read least field more before c.in_default-put_next.ensures in
    sym (ap (option_map (HallForm c.args.class)) none)

pub returns : goal.returns
unfolding hall_form members
returns c =
    let least = c.loop-rest.least in
    let set = in_set c.loop-rest.vars in
    let before = below_in least set in
    let here : variables_from 0 (fields c.args.text.now) ≡ Some (before ++ []) = rw c.in_default.is at c.loop-rest.invariant.same in
    let all : below_in 192 set ≡ before = below_none 192 set least (omega (arith, c.loop-rest.invariant.small)) (λ x a b. c.loop-rest.invariant.none x a b) in
    sym (ap (option_map (HallForm c.args.class)) (here ∙ ap Some (append_nil before ∙ sym all)))
