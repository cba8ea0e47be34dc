use Rattle.std.proofs.Common.{◌≡◌, ℕ, ◌+◌, List, [], ◌∷◌, ◌++◌, length, sym, ap, subst, ◌∙◌, arith}
use Rattle.std.specs.Prelude.{map}
use Rattle.std.specs.List.{concat}
use Rattle.std.proofs.lemmas.List.{length-append}
use Rattle.res_base.specs.Lists.{Each}
use Rattle.res_base.proofs.ListLemmas.{each_push}
use Rattle.reg_machine.specs.declared.op.Op.{Op}
use Rattle.c_print.specs.Text.{op_line, awaits_over}
use Rattle.c_print.specs.Reading.{FitsLine}
use Rattle.c_print.proofs.PrefixLemmas.{join}
use Rattle.c_print.proofs.LineLemmas.{line_long}
use Rattle.c_print.proofs.WithinLemmas.{all_named}
use Rattle.c_print.proofs.WriteLemmas.{op_more}
use Rattle.c_print.proofs.read.ops_in.Goals as goal

pub loop-op-smaller : goal.loop-op-smaller
loop-op-smaller c =
    let long = line_long c.in-Some.op c.in-Some.others.now in
    let same : length c.loop-op.rest.now ≡ length (op_line c.in-Some.op ++ c.in-Some.others.now) = ap length c.in-Some.ensures.is in
    omega (arith, long, same)

pub loop-op-preserved : goal.loop-op-preserved
loop-op-preserved c =
    let ops = c.loop-op.ops.items in
    let o = c.in-Some.op in
    let others = c.in-Some.others.now in
    let before = concat (map op_line ops) in
    let pushed : c.push.new.self.items ≡ ops ++ o ∷ [] = c.in_ok-push.ensures.items in
    let long = line_long o others in
    let same : length c.loop-op.rest.now ≡ length (op_line o ++ others) = ap length c.in-Some.ensures.is in
    let one : length c.push.new.self.items ≡ length ops + 1 = ap length pushed ∙ length-append ops (o ∷ []) in
    record {
      fit = subst (λ (os : List Op). Each FitsLine os) (sym pushed) (each_push FitsLine ops o c.loop-op.invariant.fit c.in-Some.ensures.fits.line);
      named = λ w. ap awaits_over pushed ∙ all_named c.args.over ops o c.loop-op.invariant.named c.in-Some.ensures.fits w;
      is = join before (op_line o) c.loop-op.rest.now others c.args.text.now c.loop-op.invariant.is c.in-Some.ensures.is
          ∙ ap (λ (xs : List ℕ). xs ++ others) (sym (op_more ops o) ∙ ap (λ (os : List Op). concat (map op_line os)) (sym pushed));
      few = omega (arith, long, same, one, c.loop-op.invariant.few);
    }
