-- One step of a run that is traced.
use Rattle.std.proofs.Common.{◌≡◌, ℕ, ◌+◌, ◌%◌, Bool, true, false, ◌&&◌, cond, Option, Some, None, refl, sym, ap, ◌∙◌}
use Rattle.std.specs.Prelude.{is_some, unwrap_or}
use Rattle.reg_map.specs.Fields.{bit_of}
use Rattle.reg_map.specs.declared.register.Reg.{Reg}
use Rattle.reg_map.specs.declared.register.Reg.TheVariants as reg
use Rattle.res_model.specs.ClockValues.{source_of}
use Rattle.res_model.specs.declared.clock.ClockChoice.{ClockChoice}
use Rattle.res_model.specs.declared.clock.Src.{Src}
use Rattle.res_model.specs.declared.table.TableParts.{TableParts}
use Rattle.reg_machine.specs.Legal.{is_choice_legal, is_legal, is_vco_legal}
use Rattle.reg_machine.specs.Pins.{are_legal_below}
use Rattle.reg_machine.specs.Reset.{View}
use Rattle.reg_machine.specs.Step.{act, flags, noted, poll, step_of, went}
use Rattle.reg_machine.specs.Tree.{hpre_of, m_of, n_of, p_of, ppre1_of, ppre2_of, q_of}
use Rattle.reg_machine.specs.Words.{pll_source}
use Rattle.reg_machine.specs.declared.op.Answer.{Answer}
use Rattle.reg_machine.specs.declared.op.Op.{Op}
use Rattle.reg_machine.specs.declared.op.Op.TheVariants as op
use Rattle.reg_machine.specs.declared.op.Rule.TheVariants as rule
use Rattle.reg_machine.specs.declared.op.Stepped.{Stepped}
use Rattle.reg_machine.specs.declared.op.Stepped.TheVariants as stepped
use Rattle.reg_machine.specs.declared.op.Timeout.{Timeout}
use Rattle.reg_machine.specs.declared.state.State.{State}
use Rattle.reg_machine.specs.declared.state.Target.{Target}
use Rattle.reg_trace.specs.Turn.{IsTurn, effect_of, legal_after}
use Rattle.reg_trace.specs.declared.turn.Effect.{Effect}

-- ---- flags

-- the choice of a state's fields, where another source and power step are in effect
abbrev chosen : State → Option ℕ → Src → ClockChoice
chosen s power source = record {
  src = source;
  psrc = source_of (pll_source s.pllcfgr);
  hpre = hpre_of s.cfgr;
  p = p_of s.pllcfgr;
  m = m_of s.pllcfgr;
  n = n_of s.pllcfgr;
  q = q_of s.pllcfgr;
  ppre1 = ppre1_of s.cfgr;
  ppre2 = ppre2_of s.cfgr;
  vos = unwrap_or power 0;
}

-- legality of a state's registers, where this is in effect
abbrev legal_by : TableParts → Target → State → Effect → Bool
legal_by t want s e =
    is_some e.power
    && (is_choice_legal t want.facts e.latency (chosen s e.power e.source)
    && (is_choice_legal t want.facts e.latency (chosen s e.power (source_of (s.cfgr % 4)))
    && (is_vco_legal t want.facts (bit_of 24 s.cr) (chosen s e.power e.source)
    && are_legal_below 144 want.pins s.gpio)))

-- flags that change nothing of what is in effect leave a state as legal as it was
flags_keep : (t : TableParts) (want : Target) (a : Answer) (s : State) → effect_of (flags a s) ≡ effect_of s → is_legal t want (flags a s) ≡ is_legal t want s
flags_keep t want a s e = ap (legal_by t want s) e

-- ---- accesses that write nothing

read_keeps : (t : TableParts) (want : Target) (r : Reg) (s : State) → is_legal t want (record (noted r s) { polls = 0 }) ≡ is_legal t want s
read_keeps t want reg.Cr s = refl
read_keeps t want reg.Pllcfgr s = refl
read_keeps t want reg.Cfgr s = refl
read_keeps t want reg.Acr s = refl
read_keeps t want reg.Ahb1enr s = refl
read_keeps t want reg.Apb1enr s = refl
read_keeps t want reg.PwrCr s = refl
read_keeps t want reg.PwrCsr s = refl
read_keeps t want (reg.Gpio port k) s = refl

poll_keeps : (t : TableParts) (want : Target) (met more : Bool) (name : Timeout) (s : State)
    → is_legal t want (cond met (went s) (cond more (stepped.Waiting, record s { polls = s.polls + 1 }) (stepped.TimedOut name, record s { polls = 0 }))).1 ≡ is_legal t want s
poll_keeps t want true more name s = refl
poll_keeps t want false true name s = refl
poll_keeps t want false false name s = refl

lawful_keeps : (t : TableParts) (want : Target) (b : Bool) (s : State) (x : Stepped × State) → is_legal t want x.1 ≡ is_legal t want s → is_legal t want (cond b x (stepped.Forbidden rule.AwaitUnlawful, s)).1 ≡ is_legal t want s
lawful_keeps t want true s x e = e
lawful_keeps t want false s x e = refl

after_is : (o : Op) (flagged : Bool) (v : View) (s : State) (x : Stepped) → (x, v.state) ≡ act s o → flagged ≡ is_legal v.table v.want s → legal_after o flagged v ≡ is_legal v.table v.want v.state
after_is (op.Write r value) flagged v s x e f = refl
after_is (op.Modify r clear set) flagged v s x e f = refl
after_is (op.Read r) flagged v s x e f = f ∙ sym (ap (λ (p : Stepped × State). is_legal v.table v.want p.1) e ∙ read_keeps v.table v.want r s)
after_is (op.Await r mask want polls name) flagged v s x e f =
    f ∙ sym (ap (λ (p : Stepped × State). is_legal v.table v.want p.1) e ∙ lawful_keeps v.table v.want _ s (poll s r mask want polls name) (poll_keeps v.table v.want _ _ name s))

-- ---- a turn

-- the same table and target
same_at : (t u : TableParts) (v w : Target) (s : State) → t ≡ u → v ≡ w → is_legal t v s ≡ is_legal u w s
same_at t u v w s et ew = ap (λ (x : TableParts). is_legal x v s) et ∙ ap (λ (x : Target). is_legal u x s) ew

pub turn_is : (before mid after : View) (o : Op) (a : Answer) (effect : Effect) (fine legal flagged later : Bool) (x : Stepped)
    → mid.state ≡ flags a before.state → mid.table ≡ before.table → mid.want ≡ before.want
    → (x, after.state) ≡ step_of mid.state o a → step_of (flags a before.state) o a ≡ step_of before.state o a → after.table ≡ mid.table → after.want ≡ mid.want
    → effect ≡ effect_of before.state → legal ≡ is_legal before.table before.want before.state
    → ((effect_of mid.state ≡ effect → legal ≡ is_legal mid.table mid.want mid.state) → flagged ≡ is_legal mid.table mid.want mid.state) → later ≡ legal_after o flagged after
    → IsTurn before o a fine after (record { stepped = x; fine = fine && (flagged && later); legal = later })
turn_is before mid after o a effect fine legal flagged later x came mt mw stepped once at aw was known f l =
    let did : (x, after.state) ≡ step_of before.state o a = stepped ∙ ap (λ (s : State). step_of s o a) came ∙ once in
    let table : after.table ≡ before.table = at ∙ mt in
    let want : after.want ≡ before.want = aw ∙ mw in
    let state : after.state ≡ (step_of before.state o a).1 = ap (λ (p : Stepped × State). p.1) did in
    let kept : effect_of mid.state ≡ effect → legal ≡ is_legal mid.table mid.want mid.state =
    (λ e. known
    ∙ sym (flags_keep before.table before.want a before.state (sym (ap effect_of came) ∙ e ∙ was))
    ∙ sym (ap (is_legal before.table before.want) came)
    ∙ same_at before.table mid.table before.want mid.want mid.state (sym mt) (sym mw)) in
    let seen : flagged ≡ is_legal after.table after.want (flags a before.state) =
    f kept ∙ ap (is_legal mid.table mid.want) came ∙ same_at mid.table after.table mid.want after.want (flags a before.state) (sym at) (sym aw) in
    let then : later ≡ is_legal after.table after.want after.state = l ∙ after_is o flagged after (flags a before.state) x did seen in
    let seen_before : flagged ≡ is_legal before.table before.want (flags a before.state) = seen ∙ same_at after.table before.table after.want before.want (flags a before.state) table want in
    let then_before : later ≡ is_legal before.table before.want (step_of before.state o a).1 =
    then ∙ same_at after.table before.table after.want before.want after.state table want ∙ ap (is_legal before.table before.want) state in
    record {
      table = table;
      want = want;
      stepped = ap (λ (p : Stepped × State). p.0) did;
      state = state;
      fine_is = ap (λ (b : Bool). fine && (b && later)) seen_before ∙ ap (λ (b : Bool). fine && (is_legal before.table before.want (flags a before.state) && b)) then_before;
      legal_is = then;
    }
