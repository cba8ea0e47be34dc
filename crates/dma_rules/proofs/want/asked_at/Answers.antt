use Rattle.std.proofs.Common.{List, ℕ, inr, sym, ap, ◌∙◌}
use Rattle.std.specs.Prelude.{find}
use Rattle.std.specs.Str.{bytes_eq}
use Rattle.dma_rules.proofs.WantLemmas.{asked, is_repeated}
use Rattle.dma_rules.proofs.want.asked_at.Goals as goal

pub returns-then-is_repeated : goal.returns-then-is_repeated
returns-then-is_repeated c = inr (is_repeated c.args.words.now c.args.place c.requires (sym c.is_repeated.ensures ∙ c.if-is_repeated.true))

pub returns : goal.returns
returns c =
    asked c.args.words.now c.args.place c.requires (λ x. x.now) c.args.table.now c.named.result (sym c.is_repeated.ensures ∙ c.if-is_repeated.false)
    (c.named.ensures ∙ ap (λ (name : List ℕ). find (λ r. bytes_eq r.name name) c.args.table.now) c.word_at.ensures)
