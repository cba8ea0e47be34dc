use Rattle.std.proofs.Common.{◌≡◌, ℕ, List, [], ◌∷◌, ◌++◌, ap, ◌∙◌}
use Rattle.std.specs.Prelude.{map, codes}
use Rattle.refutation.specs.declared.node.Node.{Node}
use Rattle.refutation.specs.Forms.{form_of}
use Rattle.refutation.specs.Spelling.{bound_text, forms_text, spelling}
use Rattle.refutation.proofs.FormLemmas.{parts_in_order}
use Rattle.refutation.proofs.write.write_proof.Goals as goal

pub returns : goal.returns
unfolding spelling
returns c =
    let bound = bound_text c.args.p.now.bound in
    let forms = forms_text (map form_of c.args.p.now.nodes) in
    let first : List ℕ = codes "proof 1" ++ 10 ∷ [] in
    let last : List ℕ = codes "end" in
    let a : c.put_line.new.out.items ≡ first = c.in_ok-put_line.ensures.ok ∙ ap (λ (xs : List ℕ). xs ++ codes "proof 1" ++ 10 ∷ []) c.new-out.ensures.items in
    let b : c.put_bound.new.out.items ≡ (first ++ bound) ++ 10 ∷ [] = c.in_ok-put_bound.ensures ∙ ap (λ (xs : List ℕ). (xs ++ bound) ++ 10 ∷ []) a in
    let d : c.put_nodes.new.out.items ≡ ((first ++ bound) ++ 10 ∷ []) ++ forms =
    c.in_ok-put_nodes.ensures ∙ ap (λ (xs : List ℕ). xs ++ forms_text (map form_of c.as_slice.result.now)) b ∙ ap (λ (ns : List Node). ((first ++ bound) ++ 10 ∷ []) ++ forms_text (map form_of ns)) c.as_slice.ensures in
    c.in_ok-put_line-2.ensures.ok ∙ ap (λ (xs : List ℕ). xs ++ last ++ 10 ∷ []) d ∙ parts_in_order first bound forms last
