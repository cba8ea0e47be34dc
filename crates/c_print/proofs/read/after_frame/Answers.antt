use Rattle.std.proofs.Common.{ℕ, ◌+◌, List, [], ◌++◌, take, get_or, refl, sym, ap, ◌∙◌}
use Rattle.std.specs.List.{concat}
use Rattle.c_print.specs.Text.{frame}
use Rattle.c_print.proofs.PrefixLemmas.{join}
use Rattle.c_print.proofs.WriteLemmas.{frame_more}
use Rattle.c_print.proofs.ReadLemmas.{within_frame}
use Rattle.c_print.proofs.read.after_frame.Goals as goal

pub loop-place-preserved : goal.loop-place-preserved
loop-place-preserved c =
    let place = c.loop-place.place in
    let next = c.in-Some.names in
    let prefix = concat (take place (frame next)) in
    join prefix (get_or (frame next) place []) c.loop-place.rest.now c.in-Some.others.now c.args.text.now
    (c.loop-place.invariant ∙ ap (λ (ls : List (List ℕ)). concat ls ++ c.loop-place.rest.now) (sym c.in-Some.ensures.0)) c.in-Some.ensures.1
    ∙ ap (λ (xs : List ℕ). xs ++ c.in-Some.others.now) (sym (frame_more next place c.loop-place-test.true))

pub returns-in-None-clause-refused : goal.returns-in-None-clause-refused
returns-in-None-clause-refused c =
    let place = c.loop-place.place in
    within_frame c.loop-place.over c.args.text.now place c.loop-place.rest.now (place + 1) c.loop-place-test.true c.loop-place.invariant c.in-None.ensures refl
