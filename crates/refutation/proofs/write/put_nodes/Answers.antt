use Rattle.std.proofs.Common.{◌≡◌, ℕ, ◌+◌, List, [], ◌∷◌, ◌++◌, take, get_or, sym, ap, ◌∙◌, append_assoc}
use Rattle.std.specs.Prelude.{map}
use Rattle.std.proofs.lemmas.List.{take_more}
use Rattle.refutation.specs.declared.node.Node.{Node}
use Rattle.refutation.specs.declared.node.Node.TheVariants as node
use Rattle.refutation.specs.Forms.{form_of}
use Rattle.refutation.specs.Spelling.{form_text, forms_text}
use Rattle.refutation.proofs.FormLemmas.{forms_push}
use Rattle.refutation.proofs.write.put_nodes.Goals as goal

pub loop-node-preserved : goal.loop-node-preserved
loop-node-preserved c =
    let xs = c.args.nodes.now in
    let i = c.loop-node.node-index in
    let n = get_or xs i (node.Split 0 0) in
    let more : take (i + 1) xs ≡ take i xs ++ n ∷ [] = take_more xs i (node.Split 0 0) c.loop-node-test.true in
    let old = c.args.out.now.items in
    let before = forms_text (map form_of (take i xs)) in
    let line = form_text (form_of n) in
    c.in_ok-put_node.ensures
    ∙ ap (λ (ys : List ℕ). (ys ++ line) ++ 10 ∷ []) c.loop-node.invariant
    ∙ ap (λ (ys : List ℕ). ys ++ 10 ∷ []) (append_assoc old before line)
    ∙ append_assoc old (before ++ line) (10 ∷ [])
    ∙ ap (λ (ys : List ℕ). old ++ ys) (sym (forms_push (take i xs) n) ∙ ap (λ (ns : List Node). forms_text (map form_of ns)) (sym more))
