-- The part of a file, a line at a time.
use Rattle.std.proofs.Common.{◌≡◌, ℕ, ◌+◌, ◌-◌, ◌≤◌, List, [], ◌∷◌, ◌++◌, length, take, Bool, true, false, cond, refl, sym, ap, ◌∙◌, append_assoc, length-append, arith}
use Rattle.std.specs.Prelude.{codes}
use Rattle.std.specs.Str.{bytes_eq}
use Rattle.std.proofs.Math.Seq.{take-append-add}
use Rattle.std.proofs.lemmas.List.{append-nil}
use Rattle.std.proofs.lemmas.Grind.{common_steps}
use Rattle.text_lines.specs.Lines.{TextLine, bytes_of, lines_of}
use Rattle.trace_answer.specs.Part.{CPart, behind, part_of, to_close}

-- ---- to the closing brace

-- what stands before the lines that are left, all of which are looked at
pub record ClosesFrom (text rest : List ℕ) : Type 0 where
  pub prefix : List ℕ
  pub cut : text ≡ prefix ++ rest
  pub same : to_close (lines_of text) ≡ prefix ++ to_close (lines_of rest)

pub closes_all : (text : List ℕ) → ClosesFrom text text
closes_all text = record { prefix = []; cut = refl; same = refl }

pub closes_past : (text rest line others : List ℕ) (ended : Bool) → ClosesFrom text rest → lines_of rest ≡ record { text = line; ended = ended } ∷ lines_of others → rest ≡ bytes_of (record { text = line; ended = ended }) ++ others
    → bytes_eq line (codes "}") ≡ false → ClosesFrom text others
closes_past text rest line others ended h lines bytes e =
    let l : TextLine = record { text = line; ended = ended } in
    record {
      prefix = h.prefix ++ bytes_of l;
      cut = h.cut ∙ ap (λ (xs : List ℕ). h.prefix ++ xs) bytes ∙ sym (append_assoc h.prefix (bytes_of l) others);
      same =
          h.same ∙ ap (λ (ls : List TextLine). h.prefix ++ to_close ls) lines
          ∙ ap (λ (b : Bool). h.prefix ++ cond b (bytes_of l) (bytes_of l ++ to_close (lines_of others))) e
          ∙ sym (append_assoc h.prefix (bytes_of l) (to_close (lines_of others)));
    }

prefix_of : (xs ys : List ℕ) → take (length (xs ++ ys) - length ys) (xs ++ ys) ≡ xs
prefix_of xs ys = grind (arith, common_steps)

pub closes_here : (text rest line others : List ℕ) (ended : Bool) → ClosesFrom text rest → lines_of rest ≡ record { text = line; ended = ended } ∷ lines_of others → rest ≡ bytes_of (record { text = line; ended = ended }) ++ others
    → bytes_eq line (codes "}") ≡ true → take (length text - length others) text ≡ to_close (lines_of text)
closes_here text rest line others ended h lines bytes e =
    let l : TextLine = record { text = line; ended = ended } in
    let prefix = h.prefix ++ bytes_of l in
    let cut : text ≡ prefix ++ others = h.cut ∙ ap (λ (xs : List ℕ). h.prefix ++ xs) bytes ∙ sym (append_assoc h.prefix (bytes_of l) others) in
    ap (λ (xs : List ℕ). take (length xs - length others) xs) cut ∙ prefix_of prefix others
    ∙ sym (h.same ∙ ap (λ (ls : List TextLine). h.prefix ++ to_close ls) lines ∙ ap (λ (b : Bool). h.prefix ++ cond b (bytes_of l) (bytes_of l ++ to_close (lines_of others))) e)

no_bytes : (xs : List ℕ) → length xs ≡ 0 → xs ≡ []
no_bytes [] e = refl
no_bytes (x ∷ xs) e = absurd (omega (arith, e))

pub closes_never : (text rest : List ℕ) → ClosesFrom text rest → length rest ≡ 0 → take (length text) text ≡ to_close (lines_of text)
closes_never text rest h e =
    let none = no_bytes rest e in
    let whole : text ≡ h.prefix = h.cut ∙ ap (λ (xs : List ℕ). h.prefix ++ xs) none ∙ append-nil h.prefix in
    let all : take (length text) text ≡ text = grind (arith, common_steps) in
    all ∙ whole ∙ sym (h.same ∙ ap (λ (xs : List ℕ). h.prefix ++ to_close (lines_of xs)) none ∙ append-nil h.prefix)

-- ---- from the first line

pub behind_none : (p : CPart) → p ≡ behind 0 p
behind_none p = let e : p.before ≡ 0 + p.before = omega arith in ap (λ (n : ℕ). record { before = n; text = p.text }) e

pub part_past : (whole : CPart) (before : ℕ) (rest line others : List ℕ) (ended : Bool) → whole ≡ behind before (part_of (lines_of rest)) → lines_of rest ≡ record { text = line; ended = ended } ∷ lines_of others
    → bytes_eq line (codes "#include <stdint.h>") ≡ false → whole ≡ behind (before + 1) (part_of (lines_of others))
part_past whole before rest line others ended h lines e =
    let l : TextLine = record { text = line; ended = ended } in
    let p = part_of (lines_of others) in
    let more : before + (1 + p.before) ≡ before + 1 + p.before = omega arith in
    h ∙ ap (λ (ls : List TextLine). behind before (part_of ls)) lines
    ∙ ap (λ (b : Bool). behind before (cond b (record { before = 0; text = bytes_of l ++ to_close (lines_of others) }) (behind 1 p))) e
    ∙ ap (λ (n : ℕ). record { before = n; text = p.text }) more

pub first_bytes : (text line others zs : List ℕ) (n : ℕ) → text ≡ line ++ others → n ≤ length others → take n others ≡ zs → take (length text - length others + n) text ≡ line ++ zs
first_bytes text line others zs n is l e =
    let long : length text ≡ length line + length others = ap length is ∙ length-append line others in
    let at : length text - length others + n ≡ length line + n = omega (arith, long) in
    ap (λ (xs : List ℕ). take (length text - length others + n) xs) is ∙ ap (λ (k : ℕ). take k (line ++ others)) at ∙ take-append-add line others n ∙ ap (λ (xs : List ℕ). line ++ xs) e

pub part_here : (whole : CPart) (before : ℕ) (rest line others part : List ℕ) (ended : Bool) → whole ≡ behind before (part_of (lines_of rest)) → lines_of rest ≡ record { text = line; ended = ended } ∷ lines_of others
    → rest ≡ bytes_of (record { text = line; ended = ended }) ++ others → bytes_eq line (codes "#include <stdint.h>") ≡ true
    → part ≡ bytes_of (record { text = line; ended = ended }) ++ to_close (lines_of others) → record { before = before; text = part } ≡ whole
part_here whole before rest line others part ended h lines bytes e is =
    let l : TextLine = record { text = line; ended = ended } in
    let p = part_of (lines_of others) in
    let none : before + 0 ≡ before = omega arith in
    sym (
    h ∙ ap (λ (ls : List TextLine). behind before (part_of ls)) lines
    ∙ ap (λ (b : Bool). behind before (cond b (record { before = 0; text = bytes_of l ++ to_close (lines_of others) }) (behind 1 p))) e
    ∙ ap (λ (n : ℕ). record { before = n; text = bytes_of l ++ to_close (lines_of others) }) none
    ∙ ap (λ (t : List ℕ). record { before = before; text = t }) (sym is)
    )

pub part_none : (whole : CPart) (before : ℕ) (rest : List ℕ) → whole ≡ behind before (part_of (lines_of rest)) → length rest ≡ 0 → record { before = before; text = [] } ≡ whole
part_none whole before rest h e =
    let none : before + 0 ≡ before = omega arith in
    sym (h ∙ ap (λ (xs : List ℕ). behind before (part_of (lines_of xs))) (no_bytes rest e) ∙ ap (λ (n : ℕ). record { before = n; text = [] }) none)
