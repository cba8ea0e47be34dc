-- What the machine is to have behind the writes of a choice at its homes is the target of the homes.
use Rattle.std.proofs.Common.{◌≡◌, ◌≢◌, ℕ, zero, suc, ◌+◌, ◌*◌, ◌<◌, ◌≤◌, List, [], ◌∷◌, length, map, get_or, set, replicate, drop, true, Option, Some, None, refl, sym, subst, ap, ◌∙◌, arith, add-one}
use Rattle.std.proofs.Math.Seq.{drop-cons, drop-length}
use Rattle.std.proofs.lemmas.List.{map-set}
use Rattle.std.specs.Option.{option_map_or}
use Rattle.std.specs.Prelude.{slice_get}
use Rattle.res_base.specs.Lists.{Each}
use Rattle.choice_rank.specs.Choices.{IsChoice}
use Rattle.res_model.specs.Valid.{IsPin, IsValid}
use Rattle.res_model.specs.declared.opts.Opts.{Opts}
use Rattle.res_model.specs.declared.project.Project.{Project}
use Rattle.res_model.specs.declared.project.Signal.{Signal}
use Rattle.res_model.specs.declared.table.Mode.{Mode}
use Rattle.res_model.specs.declared.table.Pin.{Pin}
use Rattle.res_model.specs.declared.table.PinUse.{PinUse}
use Rattle.res_model.specs.declared.table.TableParts.{TableParts}
use Rattle.reg_machine.specs.Legal.{IsLegal}
use Rattle.reg_machine.specs.Reset.{reset_of}
use Rattle.reg_machine.specs.Run.{Sound}
use Rattle.reg_machine.specs.declared.op.Answer.{Answer}
use Rattle.reg_machine.specs.declared.state.Target.{Target}
use Rattle.init_gen.specs.Good.{IsRight}
use Rattle.init_gen.specs.PinWrites.{mode_wanted, wanted}
use Rattle.init_gen.specs.Writes.{target_of, writes_of}
use Rattle.init_gen.specs.declared.setting.Setup.{Setup}
use Rattle.init_gen.proofs.SettingLemmas.{setting_sound}
use Rattle.problem.specs.Meets.{meets, use_of}
use Rattle.problem.specs.Problem.{IsProblem, problem_of}
use Rattle.problem.specs.declared.parts.ProblemParts.{ProblemParts}
use Rattle.choice_setup.proofs.AllowedLemmas.{allowed, settable}
use Rattle.choice_setup.proofs.PinLemmas.{all_set, nothing_set, pin_there, signal_set, uses_from}
use Rattle.choice_setup.specs.SetUp.{place_of, setting_of, setup_of, setups_from}
use Rattle.home_target.specs.Homes.{home_modes, home_target, home_use, no_modes, with_use}
use Rattle.reg_trace.specs.Clean.{IsClean}
use Rattle.reg_trace.specs.Trace.{trace_lines}
use Rattle.reg_trace.proofs.CleanLemmas.{sound_is_clean}
use Rattle.trace_laws.specs.AtHome.{AreAtHome, IsAtHome, whole}

-- ---- places

spot_at : (ps : List Pin) (pin : ℕ) → Each IsPin ps → pin < length ps → option_map_or (λ (p : Pin). p.port * 16 + p.number) (slice_get ps pin) 0 < 144
spot_at [] pin h l = absurd (omega (arith, l))
spot_at (p ∷ ps) zero h l = omega (arith, h.0.on_port.port, h.0.on_port.number)
spot_at (p ∷ ps) (suc pin) h l = spot_at ps pin h.1 (omega (arith, l))

-- ---- a signal at a time

unset : (n : ℕ) → map wanted (replicate n None) ≡ replicate n None
unset zero = refl
unset (suc n) = ap (λ (xs : List (Option Mode)). None ∷ xs) (unset n)

none_wanted : map wanted (replicate 144 None) ≡ no_modes
unfolding no_modes
none_wanted = unset 144

found : (ss : List Signal) (k : ℕ) → k < length ss → (s : Signal) × (slice_get ss k ≡ Some s) × (s ≡ get_or ss k s)
found [] k l = absurd (omega (arith, l))
found (s ∷ ss) zero l = (s, refl, refl)
found (s ∷ ss) (suc k) l = let f = found ss k (omega (arith, l)) in (f.0, f.1, f.2)

module _ (q : ProblemParts) (at : List ℕ) (agree : IsProblem q) (valid : IsValid q.tables) (choice : IsChoice q.shape at) (homes : AreAtHome q at) where
  modes_from : (d k : ℕ) → k + d ≡ length q.signals → map wanted (setups_from q at k) ≡ home_modes q.tables (drop k q.signals)
  modes_from zero k e =
      let last : k ≡ length q.signals = omega (arith, e) in
      ap (map wanted) (sym (nothing_set q at k last).setups_are) ∙ none_wanted
      ∙ ap (home_modes q.tables) (sym (ap (λ (n : ℕ). drop n q.signals) last ∙ drop-length q.signals))
  modes_from (suc d) k e =
      let l : k < length q.signals = omega (arith, e) in
      let f = found q.signals k l in
      let s = f.0 in
      let h : IsAtHome q at k s = homes k s f.1 in
      let u = h.made in
      let used = uses_from q at k u agree choice l h.chosen in
      let place = place_of q.tables u.pin in
      let within : place < 144 = spot_at q.tables.pins u.pin valid.pins.each (pin_there q at k u agree h.chosen) in
      let here = signal_set q at k place s u l f.2 used refl within in
      let cut : drop k q.signals ≡ s ∷ drop (k + 1) q.signals =
      drop-cons q.signals k s l ∙ ap (λ (x : Signal). x ∷ drop (suc k) q.signals) (sym f.2) ∙ ap (λ (n : ℕ). s ∷ drop n q.signals) (sym (add-one k)) in
      ap (map wanted) (sym here)
      ∙ map-set wanted (setups_from q at (k + 1)) place (Some (setup_of q.tables s u))
      ∙ ap (λ (ms : List (Option Mode)). set ms place (mode_wanted u.mode)) (modes_from d (k + 1) (omega (arith, e)))
      ∙ ap (λ (o : Option PinUse). with_use q.tables o (home_modes q.tables (drop (k + 1) q.signals))) (sym h.home)
      ∙ ap (home_modes q.tables) (sym cut)

  modes_are : map wanted (setups_from q at 0) ≡ home_modes q.tables q.signals
  modes_are = modes_from (length q.signals) 0 (omega arith)

-- ---- the whole

target_is : (t : TableParts) (p : Project) (opts : Opts) (at : List ℕ) → map wanted (setups_from (whole t p opts) at 0) ≡ home_modes t p.signals → target_of (setting_of (whole t p opts) at) ≡ home_target t p opts
unfolding home_target setting_of problem_of
target_is t p opts at modes = ap (λ (ms : List (Option Mode)). record { facts = (whole t p opts).facts; pins = ms }) (ap (map wanted) (sym (all_set (whole t p opts) at)) ∙ modes)

same_tables : (t : TableParts) (p : Project) (opts : Opts) → (whole t p opts).tables ≡ t
unfolding problem_of
same_tables t p opts = refl

same_signals : (t : TableParts) (p : Project) (opts : Opts) → (whole t p opts).signals ≡ p.signals
unfolding problem_of
same_signals t p opts = refl

is_whole : (t : TableParts) (p : Project) (opts : Opts) → (whole t p opts).first ≢ 0
unfolding problem_of
is_whole t p opts e = absurd (omega (arith, e))

pub clean_at_home : (t : TableParts) (p : Project) (opts : Opts) (at : List ℕ) (answers : List Answer) → IsProblem (whole t p opts) → IsValid t → IsChoice (whole t p opts).shape at → meets (whole t p opts) at ≡ true → AreAtHome (whole t p opts) at
    → Each IsClean (trace_lines t (home_target t p opts) (writes_of (setting_of (whole t p opts) at)) answers)
clean_at_home t p opts at answers agree valid choice met homes =
    let q = whole t p opts in
    let s = setting_of q at in
    let tables : t ≡ q.tables = sym (same_tables t p opts) in
    let rules : IsValid q.tables = subst IsValid tables valid in
    let modes : map wanted (setups_from q at 0) ≡ home_modes t p.signals =
    modes_are q at agree rules choice homes ∙ ap (λ (x : TableParts). home_modes x q.signals) (sym tables) ∙ ap (home_modes t) (same_signals t p opts) in
    let target : target_of s ≡ home_target t p opts = target_is t p opts at modes in
    let sound = setting_sound q.tables rules s (settable q at agree rules (is_whole t p opts) choice) (allowed q at (is_whole t p opts) met) in
    let clean : Each IsClean (trace_lines q.tables (target_of s) (writes_of s) answers) = sound_is_clean q.tables (target_of s) (IsRight s) (writes_of s) answers sound in
    subst (λ (w : Target). Each IsClean (trace_lines t w (writes_of s) answers)) target (subst (λ (x : TableParts). Each IsClean (trace_lines x (target_of s) (writes_of s) answers)) (sym tables) clean)
