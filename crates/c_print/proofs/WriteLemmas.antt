-- Lines put one behind the other.
use Rattle.std.proofs.Common.{◌≡◌, ℕ, ◌+◌, ◌<◌, List, [], ◌∷◌, ◌++◌, Bool, take, get_or, sym, ap, ◌∙◌, append_assoc}
use Rattle.std.specs.Prelude.{map}
use Rattle.std.specs.List.{concat}
use Rattle.std.proofs.lemmas.List.{append-nil, take_more}
use Rattle.reg_machine.specs.declared.op.Op.{Op}
use Rattle.c_print.specs.declared.part.Part.TheVariants as part
use Rattle.c_print.specs.Text.{part_text, op_line, awaits_over, frame, c_text_of}
use Rattle.c_print.proofs.LineLemmas.{concat_append, text_parts}

pub line_more : (ls : List (List ℕ)) (l : List ℕ) → concat (ls ++ l ∷ []) ≡ concat ls ++ l
line_more ls l = concat_append ls (l ∷ []) ∙ ap (λ xs. concat ls ++ xs) (append-nil l)

pub frame_more : (over : Bool) (place : ℕ) → place < 6 → concat (take (place + 1) (frame over)) ≡ concat (take place (frame over)) ++ get_or (frame over) place []
frame_more over place l = ap concat (take_more (frame over) place [] l) ∙ line_more (take place (frame over)) (get_or (frame over) place [])

pub op_more : (os : List Op) (o : Op) → concat (map op_line (os ++ o ∷ [])) ≡ concat (map op_line os) ++ op_line o
op_more [] o = append-nil (op_line o)
op_more (p ∷ os) o = ap (λ xs. op_line p ++ xs) (op_more os o) ∙ sym (append_assoc (op_line p) (concat (map op_line os)) (op_line o))

-- the parts of a C text, put one behind the other
pub in_order : (ops : List Op) → ((concat (frame (awaits_over ops)) ++ concat (map op_line ops)) ++ part_text part.Return) ++ part_text part.Close ≡ c_text_of ops
in_order ops =
    let prefix = concat (frame (awaits_over ops)) in
    let body = concat (map op_line ops) in
    let r = part_text part.Return in
    let z = part_text part.Close in
    append_assoc (prefix ++ body) r z ∙ append_assoc prefix body (r ++ z)
    ∙ ap (λ xs. prefix ++ (body ++ (r ++ xs))) (sym (append-nil z)) ∙ sym (text_parts ops)
