-- Lines in the order of their numbers.
use Rattle.std.proofs.Common.{◌≡◌, ℕ, suc, ◌+◌, ◌<◌, List, [], ◌∷◌, length, map, drop, get_or, Option, Some, None, refl, sym, ap, ◌∙◌, add-one}
use Rattle.std.proofs.Math.Seq.{drop-cons}
use Rattle.std.specs.Borrow.{Bor}
use Rattle.std.specs.BTreeMap.{insert_entry}
use Rattle.std.specs.Ordering.{nat_cmp, match_ordering}
use Rattle.std.specs.declared.cmp.Ordering.{Ordering}
use Rattle.std.specs.declared.cmp.Ordering.TheVariants.{Less, Equal, Greater}
use Rattle.ioc_text.specs.Lines.{pin_number}
use Rattle.ioc_project.specs.Project.{numbered, with_number}
use Rattle.ioc_text.specs.declared.line.Line.{Line}
use Rattle.ioc_project.specs.Views.{seen}

seen_before : (o : Ordering) (a b c : List (ℕ × Bor Line)) → seen (match_ordering o a b c) ≡ match_ordering o (seen a) (seen b) (seen c)
seen_before Less a b c = refl
seen_before Equal a b c = refl
seen_before Greater a b c = refl

seen_insert : (es : List (ℕ × Bor Line)) (k : ℕ) (line : Bor Line) → seen (insert_entry nat_cmp es k line) ≡ insert_entry nat_cmp (seen es) k line.now
seen_insert [] k line = refl
seen_insert (e ∷ es) k line =
    seen_before (nat_cmp k e.0) ((k, line) ∷ e ∷ es) ((e.0, line) ∷ es) (e ∷ insert_entry nat_cmp es k line)
    ∙ ap (λ (more : List (ℕ × Line)). match_ordering (nat_cmp k e.0) ((k, line.now) ∷ seen (e ∷ es)) ((e.0, line.now) ∷ seen es) ((e.0, e.1.now) ∷ more)) (seen_insert es k line)

abbrev pub now : List (Bor Line) → List Line
now lines = map (λ (l : Bor Line). l.now) lines

module _ (entries next : List (ℕ × Bor Line)) (lines : List (Bor Line)) (i : ℕ) (line : Bor Line) (lt : i < length lines) (is : line ≡ get_or lines i line) where
  at_place : drop i lines ≡ line ∷ drop (i + 1) lines
  at_place = rw add-one (drop-cons lines i line lt ∙ ap (λ (l : Bor Line). l ∷ drop (suc i) lines) (sym is))

  first_and_more : now (drop i lines) ≡ line.now ∷ now (drop (i + 1) lines)
  first_and_more = ap now at_place

  pub put : (k : ℕ) → pin_number line.now.key ≡ Some k → next ≡ insert_entry nat_cmp entries k line
      → numbered (seen next) (now (drop (i + 1) lines)) ≡ numbered (seen entries) (now (drop i lines))
  put k n e =
      ap (λ (es : List (ℕ × Line)). numbered es (now (drop (i + 1) lines)))
      (ap seen e ∙ seen_insert entries k line ∙ ap (λ (o : Option ℕ). with_number (seen entries) o line.now) (sym n))
      ∙ ap (numbered (seen entries)) (sym first_and_more)

  pub passed : pin_number line.now.key ≡ None → next ≡ entries → numbered (seen next) (now (drop (i + 1) lines)) ≡ numbered (seen entries) (now (drop i lines))
  passed n e =
      ap (λ (es : List (ℕ × Line)). numbered es (now (drop (i + 1) lines))) (ap seen e ∙ ap (λ (o : Option ℕ). with_number (seen entries) o line.now) (sym n))
      ∙ ap (numbered (seen entries)) (sym first_and_more)

pub lines_seen : (entries : List (ℕ × Bor Line)) → map (λ (l : Bor Line). l.now) (map (λ (e : ℕ × Bor Line). e.1) entries) ≡ map (λ (e : ℕ × Line). e.1) (seen entries)
lines_seen [] = refl
lines_seen (e ∷ es) = ap (λ (ls : List Line). e.1.now ∷ ls) (lines_seen es)
