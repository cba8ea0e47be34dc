-- Why no choice of a whole problem meets the limits, as the root of its canonical refutation tells it.
use Rattle.std.specs.Prelude.{ℕ, ◌+◌, ◌==◌, ◌&&◌, ◌++◌, List, [], ◌∷◌, Bool, false, codes, count_by, decimal, if◌then◌else◌}
use Rattle.std.specs.List.{flat_map, list_any}
use Rattle.std.specs.Option.{option_map_or}
use Rattle.res_base.specs.Sums.{one_if, sum_below}
use Rattle.res_base.specs.VarSet.{in_set, set_size}
use Rattle.res_base.specs.declared.var_set.VarSet.{VarSet}
use Rattle.box_rules.specs.Contest.{resource_of}
use Rattle.pin_match.specs.Hall.{any_below}
use Rattle.problem.specs.declared.parts.ProblemParts.{ProblemParts}
use Rattle.refutation.specs.declared.node.Node.{Node}
use Rattle.refutation.specs.declared.node.Node.TheVariants as node
use Rattle.res_model.specs.declared.project.Signal.{Signal}
use Rattle.res_model.specs.declared.table.PinUse.{PinUse}
use Rattle.res_model.specs.declared.table.TableParts.{TableParts}
use Rattle.search_api.specs.declared.verdict.Class.{Class}
use Rattle.search_api.specs.declared.verdict.Class.TheVariants.{Pins, Exti}
use Rattle.search_api.specs.declared.verdict.Reason.{Reason}
use Rattle.search_api.specs.declared.verdict.Reason.TheVariants as reason
use Rattle.explain_text.specs.Figures.{limit_line, limit_words}
use Rattle.explain_text.specs.LimitNames.{limit_named}
use Rattle.explain_text.specs.Joined.{joined}
use Rattle.explain_text.specs.Names.{pin_name, signal_of, values_of}

-- ---- signals that have too few pins, or interrupts that have too few lines

-- the variable is of the set, and the resource of one of its values
abbrev pub is_wanted_by : ProblemParts → Class → VarSet → ℕ → ℕ → Bool
is_wanted_by p class vars r v = in_set vars v && list_any (λ (u : PinUse). resource_of p.tables class u == r) (values_of p v)

-- the resource is of a value of some variable of the set
abbrev pub is_wanted : ProblemParts → Class → VarSet → ℕ → Bool
is_wanted p class vars r = any_below 192 (is_wanted_by p class vars r)

-- how many resources the values of the variables have together
unfoldable pub resources : ProblemParts → Class → VarSet → ℕ
resources p class vars = sum_below 192 (λ r. one_if (is_wanted p class vars r))

unfoldable pub head_line : Class → ℕ → ℕ → List ℕ
head_line Pins few many = codes "too few pins: " ++ decimal few ++ codes " for " ++ decimal many ++ codes " signals\n"
head_line Exti few many = codes "too few pin numbers: " ++ decimal few ++ codes " for " ++ decimal many ++ codes " EXTI signals\n"

-- a pin of a value
abbrev pub pin_word : TableParts → PinUse → List ℕ
pin_word t u = codes " " ++ pin_name t u.pin

-- a signal and the pins of its values, in their order
unfoldable pub wants_line : TableParts → List ℕ → List PinUse → List ℕ
wants_line t name values = name ++ codes " at" ++ flat_map (pin_word t) values ++ codes "\n"

-- the line of the variable of a number, where it is of the set
unfoldable pub member_line : ProblemParts → VarSet → ℕ → List ℕ
member_line p vars v = if in_set vars v then option_map_or (λ (s : Signal). wants_line p.tables s.name (values_of p v)) (signal_of p v) [] else []

unfoldable pub hall_text : ProblemParts → Class → VarSet → List ℕ
hall_text p class vars = head_line class (resources p class vars) (set_size vars) ++ joined 192 (member_line p vars)

-- ---- limits that shut out a box each

-- the leaf is refuted by the limit of this number
abbrev pub is_by_limit : ℕ → Node → Bool
is_by_limit k (node.Split variable after) = false
is_by_limit k (node.Bad (reason.Hall class vars)) = false
is_by_limit k (node.Bad (reason.Limit limit)) = limit == k
is_by_limit k node.Rank = false
is_by_limit k node.Witness = false

unfoldable pub boxes_line : ℕ → ℕ → List ℕ
boxes_line k boxes = if boxes == 0 then [] else codes "limit " ++ decimal k ++ codes ": " ++ limit_words (limit_named k) ++ codes ", boxes " ++ decimal boxes ++ codes "\n"

-- the line of a limit; the first is 3
unfoldable pub limit_boxes : List Node → ℕ → List ℕ
limit_boxes nodes i = boxes_line (i + 3) (count_by (is_by_limit (i + 3)) nodes)

-- the leaves that each limit from 3 to 17 refutes
unfoldable pub split_text : List Node → List ℕ
split_text nodes = joined 15 (limit_boxes nodes)

-- ---- the root

abbrev pub reason_text : ProblemParts → Reason → List ℕ
reason_text p (reason.Hall class vars) = hall_text p class vars
reason_text p (reason.Limit k) = limit_line p k

-- the root of a refutation under no bound is a reason or a split
abbrev pub why : ProblemParts → List Node → List ℕ
why p [] = []
why p (node.Bad r ∷ nodes) = reason_text p r
why p (node.Split variable after ∷ nodes) = split_text (node.Split variable after ∷ nodes)
why p (node.Rank ∷ nodes) = []
why p (node.Witness ∷ nodes) = []
