-- The nodes of a tree make up one tree, and lines tell nodes.
use Rattle.std.proofs.Common.{◌≡◌, ℕ, ◌+◌, ◌-◌, List, [], ◌∷◌, ◌++◌, true, ◌&&◌, ltb, refl, sym, ap, ◌∙◌, append_assoc, arith}
use Rattle.std.specs.Prelude.{map}
use Rattle.std.proofs.lemmas.Bool.Decides.{nat_tests}
use Rattle.refutation.specs.declared.node.Node.{Node}
use Rattle.search_api.specs.declared.verdict.Reason.TheVariants as reason
use Rattle.refutation.specs.Trees.{Tree, BadLeaf, RankLeaf, WitnessLeaf, Fork, nodes_of}
use Rattle.refutation.specs.Forms.{Form, form_of, takes_up}
use Rattle.refutation.proofs.FormLemmas.{append_nil}

pub lines_append : (ns ms : List Node) → map form_of (ns ++ ms) ≡ map form_of ns ++ map form_of ms
lines_append [] ms = refl
lines_append (n ∷ ns) ms = ap (λ fs. form_of n ∷ fs) (lines_append ns ms)

prefix : (k n : ℕ) (fs : List Form) → n ≡ k → (ltb 0 (k + 1) && takes_up n fs) ≡ takes_up k fs
prefix k n fs e =
    let t : ltb 0 (k + 1) ≡ true = grind (arith, nat_tests) in
    rw t (ap (λ x. takes_up x fs) e)

tree_on : (t : Tree) (k : ℕ) (fs : List Form) → takes_up (k + 1) (map form_of (nodes_of t) ++ fs) ≡ takes_up k fs
tree_on (BadLeaf (reason.Hall class vars)) k fs = prefix k ((k + 1) - 1) fs (omega arith)
tree_on (BadLeaf (reason.Limit limit)) k fs = prefix k ((k + 1) - 1) fs (omega arith)
tree_on RankLeaf k fs = prefix k ((k + 1) - 1) fs (omega arith)
tree_on WitnessLeaf k fs = prefix k ((k + 1) - 1) fs (omega arith)
tree_on (Fork v a l r) k fs =
    let t : ltb 0 (k + 1) ≡ true = grind (arith, nat_tests) in
    let left = map form_of (nodes_of l) in
    let right = map form_of (nodes_of r) in
    rw t (ap (λ gs. takes_up ((k + 1) + 1) (gs ++ fs)) (lines_append (nodes_of l) (nodes_of r)) ∙ ap (takes_up ((k + 1) + 1)) (append_assoc left right fs) ∙ tree_on l (k + 1) (right ++ fs) ∙ tree_on r k fs)

pub whole_tree : (t : Tree) → takes_up 1 (map form_of (nodes_of t)) ≡ true
whole_tree t = ap (takes_up 1) (sym (append_nil (map form_of (nodes_of t)))) ∙ tree_on t 0 []
