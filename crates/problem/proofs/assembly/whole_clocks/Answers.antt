use Rattle.std.proofs.Common.{◌≡◌, ◌∙◌, ◌≤◌, ◌<◌, ◌^◌, [], length, ℕ, List, sym, subst, ap, arith}
use Rattle.std.specs.Prelude.{slice_index_or}
use Rattle.problem.specs.ClockValues.{clock_domains, nowhere}
use Rattle.problem.proofs.ValueLemmas.{spans, spans_small, domains_in, few_at, home_at}
use Rattle.problem.proofs.AgreeLemmas.{fixed_in, ten_domains}
use Rattle.res_model.specs.declared.project.Home.{Home}
use Rattle.problem.proofs.assembly.whole_clocks.Goals as goal

pub clocks_of-requires-clause-as_many : goal.clocks_of-requires-clause-as_many
clocks_of-requires-clause-as_many c =
    let domains : c.as_slice.result.now ≡ clock_domains c.args.t.now = c.as_slice.ensures.value ∙ c.in_ok-domains.ensures in
    ap length c.homes_of.ensures.homes ∙ c.homes_of.ensures.ten ∙ sym (ten_domains c.args.t.now) ∙ sym (ap length domains)

pub clocks_of-requires-clause-small : goal.clocks_of-requires-clause-small
clocks_of-requires-clause-small c k l =
    let domains : c.as_slice.result.now ≡ clock_domains c.args.t.now = c.as_slice.ensures.value ∙ c.in_ok-domains.ensures in
    subst (λ (ds : List (List ℕ)). length (slice_index_or ds k []) ≤ 512) (sym domains) (few_at spans (clock_domains c.args.t.now) k (domains_in c.args.t.now c.keeps_rules.ensures.clock))

pub clocks_of-requires-clause-homes : goal.clocks_of-requires-clause-homes
clocks_of-requires-clause-homes c e k l =
    let at = home_at spans c.args.p.now.clock k spans_small (fixed_in c.args.t.now c.args.p.now c.args.opts.now c.keeps_rules.ensures c.homes_of.ensures.ten c.requires (sym c.fixes_clock.ensures ∙ e)) in
    subst (λ (hs : List Home). (slice_index_or hs k nowhere).value < 2 ^ 16) (sym c.homes_of.ensures.homes) (omega (arith, at))
