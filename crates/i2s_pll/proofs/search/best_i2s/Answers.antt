use Rattle.std.proofs.Common.{rules}
use Rattle.res_base.specs.Fraction.{over, whole}
use Rattle.res_model.specs.Clock.{vco_in_of}
use Rattle.i2s_pll.specs.Choices.{SourceIsFed}
use Rattle.i2s_pll.proofs.AnswerLemmas.{answer_of, renamed}
use Rattle.i2s_pll.proofs.search.best_i2s.Goals as goal

pub returns-then-not-source_is_fed : goal.returns-then-not-source_is_fed
returns-then-not-source_is_fed c = λ x m. let e = c.if-not-source_is_fed.ensures.1 m.source in absurd (cc)

pub returns : goal.returns
returns c =
    let t = c.args.t.now in
    let f = c.args.f.now in
    let home = c.args.home.now in
    let q = c.request_of-request.result in
    let fed : SourceIsFed t f home = c.if-not-source_is_fed.ensures.0 (search rules) in
    answer_of t f home c.args.rate fed c.best_among.result
    (renamed q.limits t.limits (over (whole q.input.hertz) q.input.m) (vco_in_of f home) q.rate c.args.rate c.range_of_n-least.result t.clock.n c.best_among.result
    c.request_of-request.ensures.limits c.request_of-request.ensures.input c.request_of-request.ensures.rate c.range_of_n-least.ensures.value c.best_among.ensures)
