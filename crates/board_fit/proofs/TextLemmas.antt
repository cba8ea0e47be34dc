-- The text and the accesses of a joined choice are those of its parts.
use Rattle.std.proofs.Common.{◌≡◌, ℕ, ◌+◌, ◌++◌, ◌==◌, List, [], ◌∷◌, length, drop, cond, Option, Some, refl, sym, subst, ap, ◌∙◌, arith}
use mathlib.Core.Path.{fun_ext}
use Rattle.std.specs.Prelude.{map, unwrap_or}
use Rattle.choice_rank.specs.Choices.{IsChoice, cost_of}
use Rattle.choice_rank.specs.declared.variable.VarShape.{VarShape}
use Rattle.c_print.specs.Text.{c_text_of}
use Rattle.choice_setup.specs.SetUp.{place_of, places, setting_of, setup_at, setup_of, setups_of}
use Rattle.clock_tree.specs.ClockText.{clock_text}
use Rattle.init_gen.specs.Writes.{target_of, writes_of}
use Rattle.init_gen.specs.declared.setting.Setting.{Setting}
use Rattle.init_gen.specs.declared.setting.Setup.{Setup}
use Rattle.init_gen.specs.Good.{IsRight}
use Rattle.reg_machine.specs.Legal.{IsLegal}
use Rattle.reg_machine.specs.Reset.{reset_of}
use Rattle.reg_machine.specs.Run.{Sound}
use Rattle.problem.specs.ClockValues.{clock_at}
use Rattle.problem.specs.Problem.{clock_of, clock_shape, problem_of}
use Rattle.problem.specs.declared.parts.Part.TheVariants.{Whole}
use Rattle.report.specs.PinText.{pins_text}
use Rattle.report.specs.Placed.{uses_of}
use Rattle.report.specs.Reported.{tree_text}
use Rattle.res_model.specs.Clock.{facts_of, hclk_of}
use Rattle.res_model.specs.Placement.{uses_at}
use Rattle.res_model.specs.Power.{range_at, range_prefetches, wait_of}
use Rattle.res_model.specs.Values.{pin_values, pin_variables}
use Rattle.res_model.specs.declared.clock.ClockChoice.{ClockChoice}
use Rattle.res_model.specs.declared.clock.Facts.{Facts}
use Rattle.res_model.specs.declared.opts.Opts.{Opts}
use Rattle.res_model.specs.declared.project.Project.{Project}
use Rattle.res_model.specs.declared.project.Signal.{Signal}
use Rattle.res_model.specs.declared.table.PinUse.{PinUse}
use Rattle.res_model.specs.declared.table.TableParts.{TableParts}
use Rattle.solver.specs.Owed.{AreSound}
use Rattle.board_fit.specs.Fixed.{all_settled, fixed}
use Rattle.board_fit.specs.Parts.{IsBoard, alone, alone_variables, clocks_of, firsts, joined, one_value, pins_of, whole_of}
use Rattle.board_fit.specs.Texts.{board_text, cost_line, parts_text}
use Rattle.board_fit.proofs.FactsLemmas.{facts_kept}
use Rattle.joined_choices.proofs.JoinLemmas as joins
use Rattle.board_fit.proofs.PartLemmas as parts
use Rattle.board_fit.proofs.SettledLemmas.{AreSettled}

-- a settled signal sets up what the signal does
setup_kept : (t : TableParts) (ss : List Signal) (us : List PinUse) (place : ℕ) → setup_at t (all_settled ss us) us place ≡ setup_at t ss us place
setup_kept t [] us place = refl
setup_kept t (s ∷ ss) [] place = refl
setup_kept t (s ∷ ss) (u ∷ us) place = ap (λ (o : Option Setup). cond (place_of t u.pin == place) (Some (setup_of t s u)) o) (setup_kept t ss us place)

setups_kept : (t : TableParts) (ss : List Signal) (us : List PinUse) → setups_of t (all_settled ss us) us ≡ setups_of t ss us
unfolding setups_of
setups_kept t ss us = ap (λ (f : ℕ → Option Setup). map f places) (fun_ext (setup_kept t ss us))

-- a setting from its parts
abbrev made : TableParts → Facts → ClockChoice → List Signal → List PinUse → Setting
made t f c ss us = record { version = t.version; facts = f; clock = c; wait = unwrap_or (wait_of t f.vdd (hclk_of f c)) 0; prefetch = range_prefetches (range_at t f.vdd); pins = setups_of t ss us }

module _ (t : TableParts) (p : Project) (opts : Opts) (board : IsBoard t p opts) (at : List ℕ) (placement : IsChoice (pins_of t p opts).shape at) (ks : List ℕ) (clocks : IsChoice (clock_shape t p opts Whole) ks) where
  abbrev us : List PinUse
  us = uses_of (pins_of t p opts) at

  ten : length ks ≡ 10
  ten = parts.ten_places t p opts board ks clocks

  settled_are : AreSettled t p.signals us
  settled_are = parts.settled_are t p opts board at placement

  drop_ten : (xs : List ℕ) → drop 10 (ks ++ xs) ≡ xs
  drop_ten xs = parts.drop_ten ks xs ten

  -- what the signals use is what they use in the placement
  whole_uses : uses_of (whole_of t p opts) (joined ks at) ≡ us
  unfolding problem_of
  whole_uses = ap (uses_at (pin_values t p.signals)) (drop_ten at)

  clocks_uses : uses_of (clocks_of t p opts at) (alone p ks) ≡ us
  unfolding problem_of fixed
  clocks_uses =
      let n : ℕ = length p.signals in
      ap (uses_at (pin_values t (all_settled p.signals us))) (drop_ten (firsts n))
      ∙ ap (λ (vss : List (List PinUse)). uses_at vss (firsts n)) settled_are.values
      ∙ ap (λ (m : ℕ). uses_at (map one_value us) (firsts m)) (sym settled_are.many)
      ∙ parts.first_uses us

  abbrev values : List (List ℕ)
  values = clock_of t p opts Whole

  whole_clock : clock_at values (joined ks at) ≡ clock_at values ks
  whole_clock = parts.clock_joined values ks at ten

  alone_clock : clock_at values (alone p ks) ≡ clock_at values ks
  alone_clock = parts.clock_joined values ks (firsts (length p.signals)) ten

  whole_setting : setting_of (whole_of t p opts) (joined ks at) ≡ made t (facts_of t p opts) (clock_at values ks) p.signals us
  unfolding problem_of setting_of
  whole_setting =
      ap (λ (c : ClockChoice). made t (facts_of t p opts) c p.signals (uses_at (pin_values t p.signals) (drop 10 (joined ks at)))) whole_clock
      ∙ ap (λ (xs : List PinUse). made t (facts_of t p opts) (clock_at values ks) p.signals xs) whole_uses

  alone_setting : setting_of (clocks_of t p opts at) (alone p ks) ≡ made t (facts_of t p opts) (clock_at values ks) p.signals us
  unfolding problem_of setting_of fixed
  alone_setting =
      let n : ℕ = length p.signals in
      let ss : List Signal = all_settled p.signals us in
      ap (λ (c : ClockChoice). made t (facts_of t (fixed p us) opts) c ss (uses_at (pin_values t ss) (drop 10 (alone p ks)))) alone_clock
      ∙ ap (λ (xs : List PinUse). made t (facts_of t (fixed p us) opts) (clock_at values ks) ss xs) clocks_uses
      ∙ ap (λ (f : Facts). made t f (clock_at values ks) ss us) (facts_kept t p us opts)
      ∙ ap (λ (u : List (Option Setup)). (let x : Setting = record { version = t.version; facts = facts_of t p opts; clock = clock_at values ks; wait = unwrap_or (wait_of t (facts_of t p opts).vdd (hclk_of (facts_of t p opts) (clock_at values ks))) 0; prefetch = range_prefetches (range_at t (facts_of t p opts).vdd); pins = u } in x)) (setups_kept t p.signals us)

  pub same_setting : setting_of (clocks_of t p opts at) (alone p ks) ≡ setting_of (whole_of t p opts) (joined ks at)
  same_setting = alone_setting ∙ sym whole_setting

  -- the accesses of the clocks are those of the joined choice
  sound_of : TableParts → Setting → Type 0
  sound_of x s = Sound (IsLegal x (target_of s)) (IsRight s) (writes_of s) (reset_of x (target_of s))

  pub sound_joined : AreSound (clocks_of t p opts at) (alone p ks) → AreSound (whole_of t p opts) (joined ks at)
  unfolding sound_of problem_of
  sound_joined sound = subst (sound_of t) same_setting sound

  cost_joined : cost_of (whole_of t p opts).shape (joined ks at) ≡ cost_of (pins_of t p opts).shape at + cost_of (clocks_of t p opts at).shape (alone p ks)
  cost_joined =
      let cs : List VarShape = clock_shape t p opts Whole in
      let ps : List VarShape = pin_variables t p.signals in
      let n : ℕ = length p.signals in
      let w : cost_of (whole_of t p opts).shape (joined ks at) ≡ cost_of cs ks + cost_of ps at = ap (λ (vs : List VarShape). cost_of vs (joined ks at)) (parts.whole_shape t p opts board) ∙ joins.cost_join cs ps ks at clocks in
      let q : cost_of (pins_of t p opts).shape at ≡ cost_of ps at = ap (λ (vs : List VarShape). cost_of vs at) (parts.pins_shape t p opts board) in
      let c : cost_of (clocks_of t p opts at).shape (alone p ks) ≡ cost_of cs ks + cost_of (alone_variables n) (firsts n) =
      ap (λ (vs : List VarShape). cost_of vs (alone p ks)) (parts.clocks_shape t p opts board at placement) ∙ joins.cost_join cs (alone_variables n) ks (firsts n) clocks in
      omega (arith, w, q, c, parts.alone_cost n)

  same_tree : tree_text (clocks_of t p opts at) (clock_at (clocks_of t p opts at).clock (alone p ks)) ≡ tree_text (whole_of t p opts) (clock_at (whole_of t p opts).clock (joined ks at))
  unfolding problem_of fixed
  same_tree =
      ap (λ (c : ClockChoice). clock_text (facts_of t (fixed p us) opts) c (wait_of t (facts_of t (fixed p us) opts).vdd (hclk_of (facts_of t (fixed p us) opts) c))) (alone_clock ∙ sym whole_clock)
      ∙ ap (λ (f : Facts). clock_text f (clock_at values (joined ks at)) (wait_of t f.vdd (hclk_of f (clock_at values (joined ks at))))) (facts_kept t p us opts)

  same_pins : pins_text (pins_of t p opts).tables (pins_of t p opts).signals us ≡ pins_text (whole_of t p opts).tables (whole_of t p opts).signals (uses_of (whole_of t p opts) (joined ks at))
  unfolding problem_of
  same_pins = ap (pins_text t p.signals) (sym whole_uses)

  pub same_text : parts_text (pins_of t p opts) at (clocks_of t p opts at) (alone p ks) ≡ board_text (whole_of t p opts) (joined ks at)
  unfolding parts_text board_text
  same_text =
      let f = clocks_of t p opts at in
      let w = whole_of t p opts in
      ap (λ (x : List ℕ). x ++ pins_text (pins_of t p opts).tables (pins_of t p opts).signals us ++ tree_text f (clock_at f.clock (alone p ks)) ++ c_text_of (writes_of (setting_of f (alone p ks)))) (ap cost_line (sym cost_joined))
      ∙ ap (λ (x : List ℕ). cost_line (cost_of w.shape (joined ks at)) ++ x ++ tree_text f (clock_at f.clock (alone p ks)) ++ c_text_of (writes_of (setting_of f (alone p ks)))) same_pins
      ∙ ap (λ (x : List ℕ). cost_line (cost_of w.shape (joined ks at)) ++ pins_text w.tables w.signals (uses_of w (joined ks at)) ++ x ++ c_text_of (writes_of (setting_of f (alone p ks)))) same_tree
      ∙ ap (λ (s : Setting). cost_line (cost_of w.shape (joined ks at)) ++ pins_text w.tables w.signals (uses_of w (joined ks at)) ++ tree_text w (clock_at w.clock (joined ks at)) ++ c_text_of (writes_of s)) same_setting
