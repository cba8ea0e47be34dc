use Rattle.std.proofs.Common.{◌∙◌, ◌≤◌, ap, length, subst, sym}
use Rattle.std.specs.Prelude.{string_bytes, unwrap_or}
use Rattle.cmd_words.specs.Words.{is_option}
use Rattle.cmd_words.proofs.PositionLemmas.{few_before, first_or_length}
use Rattle.cmd_words.proofs.requests.names_before.Goals as goal

pub returns-clause-count : goal.returns-clause-count
returns-clause-count c = c.unwrap_or.ensures ∙ ap (λ first. unwrap_or first (length c.args.words.now)) c.first_option.ensures ∙ first_or_length is_option string_bytes c.args.words.now

pub returns-clause-within : goal.returns-clause-within
returns-clause-within c = subst (λ n. n ≤ length c.args.words.now) (sym (returns-clause-count c)) (few_before is_option string_bytes c.args.words.now)
