-- The lines of a made case.
use Rattle.std.specs.Prelude.{ℕ, List, ◌++◌, codes}
use Rattle.choice_rank.specs.Choices.{cost_of, rank_of}
use Rattle.problem.specs.declared.parts.ProblemParts.{ProblemParts}
use Rattle.problem.specs.ClockValues.{clock_at}
use Rattle.res_model.specs.Clock.{hclk_of}
use Rattle.clock_tree.specs.ClockText.{floor, node_line}

-- HCLK of a choice, in whole hertz
abbrev pub hclk_hertz : ProblemParts → List ℕ → ℕ
hclk_hertz p at = floor (hclk_of p.facts (clock_at p.clock at))

-- the number of the case, the rank and the cost of a choice, and HCLK, each on a line behind its name
unfoldable pub case_text : ℕ → ProblemParts → List ℕ → List ℕ
case_text number p at =
    node_line (codes "case") number ++ node_line (codes "rank") (rank_of p.shape at)
    ++ node_line (codes "cost") (cost_of p.shape at) ++ node_line (codes "HCLK") (hclk_hertz p at)
