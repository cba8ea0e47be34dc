use Rattle.res_base.specs.declared.var_set.VarSet.{VarSet}
use Rattle.pin_match.specs.Largest.{hall_of}
use Rattle.pin_match.specs.Sets.{fits_in}
use Rattle.pin_match.specs.Sizes.{Sizes}
use Rattle.std.proofs.Common.{refl, Option, Some, None, ◌≡◌, ◌∙◌, ℕ, List, length, sym, ap, arith}
use Rattle.box_split.specs.BoxIn.{runs_in}
use Rattle.box_rules.specs.Contest.{contestants, members_of, named}
use Rattle.box_rules.proofs.MemberLemmas.{few_members, variable_small, named_is, hall_is, whole}
use Rattle.box_judge.proofs.contest.Contest.hall.Goals as goal

pub named-requires-clause-few : goal.named-requires-clause-few
named-requires-clause-few c = omega (arith, c.requires.ready.few, ap length c.as_slice-members.ensures.value, ap length c.requires.ready.members, few_members c.args.class 0 c.args.uses.now)

pub named-requires-clause-small : goal.named-requires-clause-small
named-requires-clause-small c =
    let uses = c.args.uses.now in
    variable_small c.args.t.now c.args.class c.args.first uses (runs_in (length uses) c.args.lo.now c.args.hi.now) c.requires.inside c.as_slice-members.result.now (c.as_slice-members.ensures.value ∙ c.requires.ready.members) c.requires.few

pub returns-in-Some-clause-hall : goal.returns-in-Some-clause-hall
returns-in-Some-clause-hall c =
    let uses = c.args.uses.now in
    let rs = runs_in (length uses) c.args.lo.now c.args.hi.now in
    let ms = c.as_slice-members.result.now in
    let is : ms ≡ members_of c.args.class 0 uses = c.as_slice-members.ensures.value ∙ c.requires.ready.members in
    let sets : c.as_slice.result.now ≡ c.fill.new.sets = c.as_slice.ensures.value ∙ whole c.args.self.now.sets.len c.fill.new.sets c.args.self.now.sets.items (omega (arith, c.fill.auto.sets, c.as_mut_slice.ensures.len)) (sym (ap length c.as_mut_slice.ensures.value) ∙ c.as_mut_slice.ensures.len) in
    let n : c.args.self.now.matcher.variables ≡ length ms = ap (λ (x : Sizes). x.variables) c.requires.ready.matcher ∙ sym (ap length c.as_slice-members.ensures.value) in
    let r : c.args.self.now.matcher.resources ≡ 192 = ap (λ (x : Sizes). x.resources) c.requires.ready.matcher in
    let found : Some c.in-Some.places ≡ hall_of (length ms) 192 (fits_in c.fill.new.sets) = c.in-Some.ensures.computed ∙ ap (λ (l : List VarSet). hall_of c.args.self.now.matcher.variables c.args.self.now.matcher.resources (fits_in l)) sets ∙ ap (λ (k : ℕ). hall_of k c.args.self.now.matcher.resources (fits_in c.fill.new.sets)) n ∙ ap (λ (k : ℕ). hall_of (length ms) k (fits_in c.fill.new.sets)) r in
    let name : c.named.result ≡ named (contestants c.args.class c.args.first uses rs) c.in-Some.places = named_is c.args.t.now c.args.class c.args.first uses rs c.requires.inside ms is c.in-Some.places c.named.result c.named.ensures.words c.named.ensures.set in
    hall_is c.args.t.now c.args.class c.args.first uses rs c.requires.inside ms is c.fill.new.sets (c.fill.ensures c.args.first) (Some c.in-Some.places) found (Some c.named.result) (ap Some (sym name))

pub returns-in-None-clause-hall : goal.returns-in-None-clause-hall
returns-in-None-clause-hall c =
    let uses = c.args.uses.now in
    let rs = runs_in (length uses) c.args.lo.now c.args.hi.now in
    let ms = c.as_slice-members.result.now in
    let is : ms ≡ members_of c.args.class 0 uses = c.as_slice-members.ensures.value ∙ c.requires.ready.members in
    let sets : c.as_slice.result.now ≡ c.fill.new.sets = c.as_slice.ensures.value ∙ whole c.args.self.now.sets.len c.fill.new.sets c.args.self.now.sets.items (omega (arith, c.fill.auto.sets, c.as_mut_slice.ensures.len)) (sym (ap length c.as_mut_slice.ensures.value) ∙ c.as_mut_slice.ensures.len) in
    let n : c.args.self.now.matcher.variables ≡ length ms = ap (λ (x : Sizes). x.variables) c.requires.ready.matcher ∙ sym (ap length c.as_slice-members.ensures.value) in
    let r : c.args.self.now.matcher.resources ≡ 192 = ap (λ (x : Sizes). x.resources) c.requires.ready.matcher in
    let found : ◌≡◌ {A = Option VarSet} None (hall_of (length ms) 192 (fits_in c.fill.new.sets)) = c.in-None.ensures.computed ∙ ap (λ (l : List VarSet). hall_of c.args.self.now.matcher.variables c.args.self.now.matcher.resources (fits_in l)) sets ∙ ap (λ (k : ℕ). hall_of k c.args.self.now.matcher.resources (fits_in c.fill.new.sets)) n ∙ ap (λ (k : ℕ). hall_of (length ms) k (fits_in c.fill.new.sets)) r in
    hall_is c.args.t.now c.args.class c.args.first uses rs c.requires.inside ms is c.fill.new.sets (c.fill.ensures c.args.first) None found None refl
