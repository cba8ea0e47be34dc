-- A text that begins with no line of a form.
use Rattle.std.proofs.Common.{◌≡◌, ◌≢◌, ℕ, ◌^◌, List, ◌++◌, sym, ap, ◌∙◌}
use Rattle.reg_map.specs.declared.register.Reg.{Reg}
use Rattle.reg_map.specs.Registers.{address, IsRegister}
use Rattle.reg_machine.specs.declared.op.Timeout.{Timeout}
use Rattle.reg_machine.specs.declared.op.Timeout.TheVariants as timeout
use Rattle.reg_machine.specs.declared.op.Op.TheVariants as op
use Rattle.c_print.specs.declared.part.Part.{Part}
use Rattle.c_print.specs.declared.part.Part.TheVariants as part
use Rattle.c_print.specs.Text.{part_text, number_after, count, await_end, op_line}
use Rattle.c_print.specs.Reading.{FitsLine}
use Rattle.c_print.specs.Prefixes.{Begins, BeginsNone, Below, IsCount}
use Rattle.c_print.proofs.PrefixLemmas.{past, past_text, none_first, none_text}
use Rattle.c_print.proofs.NumberLemmas.{number_apart, count_apart}
use Rattle.c_print.proofs.RegisterLemmas.{register_after, register_apart}
use Rattle.c_print.proofs.LineLemmas.{write_rest, set_rest, clear_rest, modify_rest, limit_rest, want_rest, await_rest}

abbrev pub HasNoText : List ℕ → List ℕ → Type 0
HasNoText a text = (rest : List ℕ) → text ≢ a ++ rest

abbrev pub Word : Part → List ℕ → ℕ → List ℕ → Type 0
Word before text n rest = Begins (number_after before) (Below (2 ^ 32)) text n rest

abbrev pub NoWord : Part → List ℕ → Type 0
NoWord before text = BeginsNone (number_after before) (Below (2 ^ 32)) text

abbrev pub Register : Part → List ℕ → Reg → List ℕ → Type 0
Register before text r rest = Begins (register_after before) IsRegister text r rest

abbrev pub NoRegister : Part → List ℕ → Type 0
NoRegister before text = BeginsNone (register_after before) IsRegister text

-- ---- a write
abbrev pub NoWrite : List ℕ → Type 0
NoWrite text = (r : Reg) (value : ℕ) (rest : List ℕ) → FitsLine (op.Write r value) → text ≢ op_line (op.Write r value) ++ rest

module _ (text : List ℕ) (reg : Reg) (first : List ℕ) (b : Register part.Store text reg first) where
  write_next : (r : Reg) (v : ℕ) (rest : List ℕ) → FitsLine (op.Write r v) → text ≡ op_line (op.Write r v) ++ rest → first ≡ write_rest v ++ rest
  write_next r v rest f e = (past (register_after part.Store) IsRegister (register_apart part.Store) text reg first r (write_rest v) rest b f.0 e).1

  pub write_no_value : NoWord part.Gets first → NoWrite text
  write_no_value none r v rest f e = none_first (number_after part.Gets) (Below (2 ^ 32)) first v (part_text part.End) rest none f.1 (write_next r v rest f e)

  pub write_no_end : (value : ℕ) (second : List ℕ) → Word part.Gets first value second → HasNoText (part_text part.End) second → NoWrite text
  write_no_end value second w none r v rest f e =
      none rest (past (number_after part.Gets) (Below (2 ^ 32)) (number_apart part.Gets) first value second v (part_text part.End) rest w f.1 (write_next r v rest f e)).1

-- ---- a modify
abbrev pub NoModify : List ℕ → Type 0
NoModify text = (r : Reg) (clear set : ℕ) (rest : List ℕ) → FitsLine (op.Modify r clear set) → text ≢ op_line (op.Modify r clear set) ++ rest

module _ (text : List ℕ) (reg : Reg) (first : List ℕ) (b : Register part.Store text reg first) where
  modify_next : (r : Reg) (c s : ℕ) (rest : List ℕ) → FitsLine (op.Modify r c s) → text ≡ op_line (op.Modify r c s) ++ rest → (reg ≡ r) × (first ≡ modify_rest r c s ++ rest)
  modify_next r c s rest f e = past (register_after part.Store) IsRegister (register_apart part.Store) text reg first r (modify_rest r c s) rest b f.0 e

  pub modify_no_old : NoRegister part.GetsOld first → NoModify text
  modify_no_old none r c s rest f e = none_first (register_after part.GetsOld) IsRegister first r (clear_rest c s) rest none f.0 (modify_next r c s rest f e).1

  module _ (old : Reg) (second : List ℕ) (o : Register part.GetsOld first old second) where
    old_next : (r : Reg) (c s : ℕ) (rest : List ℕ) → FitsLine (op.Modify r c s) → text ≡ op_line (op.Modify r c s) ++ rest → (old ≡ r) × (second ≡ clear_rest c s ++ rest)
    old_next r c s rest f e = past (register_after part.GetsOld) IsRegister (register_apart part.GetsOld) first old second r (clear_rest c s) rest o f.0 (modify_next r c s rest f e).1

    pub modify_two : (address old ≡ address reg → ⊥) → NoModify text
    modify_two differ r c s rest f e = differ (ap address ((old_next r c s rest f e).0 ∙ sym (modify_next r c s rest f e).0))

    pub modify_no_clear : NoWord part.ButNot second → NoModify text
    modify_no_clear none r c s rest f e = none_first (number_after part.ButNot) (Below (2 ^ 32)) second c (set_rest s) rest none f.1 (old_next r c s rest f e).1

    module _ (clear : ℕ) (third : List ℕ) (w : Word part.ButNot second clear third) where
      clear_next : (r : Reg) (c s : ℕ) (rest : List ℕ) → FitsLine (op.Modify r c s) → text ≡ op_line (op.Modify r c s) ++ rest → third ≡ set_rest s ++ rest
      clear_next r c s rest f e = (past (number_after part.ButNot) (Below (2 ^ 32)) (number_apart part.ButNot) second clear third c (set_rest s) rest w f.1 (old_next r c s rest f e).1).1

      pub modify_no_set : NoWord part.Or third → NoModify text
      modify_no_set none r c s rest f e = none_first (number_after part.Or) (Below (2 ^ 32)) third s (part_text part.End) rest none f.2 (clear_next r c s rest f e)

      pub modify_no_end : (set : ℕ) (fourth : List ℕ) → Word part.Or third set fourth → HasNoText (part_text part.End) fourth → NoModify text
      modify_no_end set fourth z none r c s rest f e =
          none rest (past (number_after part.Or) (Below (2 ^ 32)) (number_apart part.Or) third set fourth s (part_text part.End) rest z f.2 (clear_next r c s rest f e)).1

-- ---- a read
abbrev pub NoRead : List ℕ → Type 0
NoRead text = (r : Reg) (rest : List ℕ) → FitsLine (op.Read r) → text ≢ op_line (op.Read r) ++ rest

pub read_no_end : (text : List ℕ) (reg : Reg) (first : List ℕ) → Register part.Load text reg first → HasNoText (part_text part.LoadEnd) first → NoRead text
read_no_end text reg first b none r rest f e =
    none rest (past (register_after part.Load) IsRegister (register_apart part.Load) text reg first r (part_text part.LoadEnd) rest b f e).1

-- ---- an await
abbrev pub NoAwait : List ℕ → Type 0
NoAwait text = (r : Reg) (mask want polls : ℕ) (name : Timeout) (rest : List ℕ) → FitsLine (op.Await r mask want polls name) → text ≢ op_line (op.Await r mask want polls name) ++ rest

-- an await behind which a text goes on so
abbrev Goes : (ℕ → ℕ → ℕ → Timeout → List ℕ) → List ℕ → List ℕ → Type 0
Goes tail text at = (r : Reg) (m w n : ℕ) (name : Timeout) (rest : List ℕ) → FitsLine (op.Await r m w n name) → text ≡ op_line (op.Await r m w n name) ++ rest → at ≡ tail m w n name ++ rest

module _ (text : List ℕ) (reg : Reg) (first : List ℕ) (b : Register part.Poll text reg first) where
  poll_next : Goes await_rest text first
  poll_next r m w n name rest f e = (past (register_after part.Poll) IsRegister (register_apart part.Poll) text reg first r (await_rest m w n name) rest b f.0 e).1

  pub await_no_mask : NoWord part.Under first → NoAwait text
  await_no_mask none r m w n name rest f e = none_first (number_after part.Under) (Below (2 ^ 32)) first m (want_rest w n name) rest none f.1 (poll_next r m w n name rest f e)

  module _ (mask : ℕ) (second : List ℕ) (k : Word part.Under first mask second) where
    mask_next : Goes (λ m w n name. want_rest w n name) text second
    mask_next r m w n name rest f e = (past (number_after part.Under) (Below (2 ^ 32)) (number_apart part.Under) first mask second m (want_rest w n name) rest k f.1 (poll_next r m w n name rest f e)).1

    pub await_no_want : NoWord part.IsNot second → NoAwait text
    await_no_want none r m w n name rest f e =
        none_first (number_after part.IsNot) (Below (2 ^ 32)) second w (part_text part.AtMost ++ limit_rest n name) rest none f.2 (mask_next r m w n name rest f e)

    module _ (want : ℕ) (third : List ℕ) (v : Word part.IsNot second want third) where
      want_next : Goes (λ m w n name. part_text part.AtMost ++ limit_rest n name) text third
      want_next r m w n name rest f e =
          (past (number_after part.IsNot) (Below (2 ^ 32)) (number_apart part.IsNot) second want third w (part_text part.AtMost ++ limit_rest n name) rest v f.2 (mask_next r m w n name rest f e)).1

      pub await_no_limit : HasNoText (part_text part.AtMost) third → NoAwait text
      await_no_limit none r m w n name rest f e = none_text (part_text part.AtMost) (limit_rest n name) rest third none (want_next r m w n name rest f e)

      module _ (fourth : List ℕ) (l : third ≡ part_text part.AtMost ++ fourth) where
        limit_next : Goes (λ m w n name. limit_rest n name) text fourth
        limit_next r m w n name rest f e = past_text (part_text part.AtMost) fourth (limit_rest n name) rest third l (want_next r m w n name rest f e)

        pub await_no_count : BeginsNone count IsCount fourth → NoAwait text
        await_no_count none r m w n name rest f e = none_first count IsCount fourth n (await_end name) rest none (f.3, f.4) (limit_next r m w n name rest f e)

        pub await_no_name : (polls : ℕ) (fifth : List ℕ) → Begins count IsCount fourth polls fifth → ((name : Timeout) (rest : List ℕ) → fifth ≢ await_end name ++ rest) → NoAwait text
        await_no_name polls fifth c none r m w n name rest f e =
            none name rest (past count IsCount count_apart fourth polls fifth n (await_end name) rest c (f.3, f.4) (limit_next r m w n name rest f e)).1

pub no_name : (text : List ℕ) → HasNoText (await_end timeout.Hse) text → HasNoText (await_end timeout.Pll) text → HasNoText (await_end timeout.Latency) text → HasNoText (await_end timeout.Switch) text → HasNoText (await_end timeout.Over) text → HasNoText (await_end timeout.OverSwitch) text → (name : Timeout) (rest : List ℕ) → text ≢ await_end name ++ rest
no_name text h p l s o w timeout.Hse = h
no_name text h p l s o w timeout.Pll = p
no_name text h p l s o w timeout.Latency = l
no_name text h p l s o w timeout.Switch = s
no_name text h p l s o w timeout.Over = o
no_name text h p l s o w timeout.OverSwitch = w
