-- How a list of ops is shown to be sound, from its end to its beginning.
use Rattle.std.proofs.Common.{◌≡◌, ℕ, zero, suc, ◌+◌, ◌<◌, ◌≤◌, List, [], ◌∷◌, length, Bool, true, false, ◌||◌, inl, inr, refl, sym, subst, ap, ◌∙◌, arith}
use Rattle.reg_machine.specs.declared.op.Timeout.{Timeout}
use Rattle.reg_machine.specs.declared.op.Op.{Op}
use Rattle.reg_machine.specs.declared.op.Answer.{Answer}
use Rattle.reg_machine.specs.declared.state.State.{State}
use Rattle.std.proofs.lemmas.Bool.{cases_lt}
use Rattle.reg_machine.specs.declared.op.Stepped.TheVariants as stepped
use Rattle.reg_machine.specs.Step.{flags, act}
use Rattle.reg_machine.specs.Run.{Config, Running, Done, TimedOut, Forbidden, after, next, silent, config_at, IsEnd, IsFine, AllCome, IsDone, Sound}

done_stays : (n : ℕ) (answers : List Answer) (s : State) → config_at n answers (Done s) ≡ Done s
done_stays zero answers s = refl
done_stays (suc n) [] s = done_stays n [] s
done_stays (suc n) (a ∷ answers) s = done_stays n answers s

out_stays : (n : ℕ) (answers : List Answer) (name : Timeout) (s : State) → config_at n answers (TimedOut name s) ≡ TimedOut name s
out_stays zero answers name s = refl
out_stays (suc n) [] name s = out_stays n [] name s
out_stays (suc n) (a ∷ answers) name s = out_stays n answers name s

module _ (legal right : State → Type 0) where
  pub sound_end : (s : State) → legal s → right s → Sound legal right [] s
  sound_end s l r = record {
    fine = λ answers n. end_fine answers n;
    ends = λ answers. end_ends answers;
    prompt = λ answers all len. end_prompt answers;
  } where
    end_fine : (answers : List Answer) (n : ℕ) → IsFine legal right (config_at n answers (Running [] s))
    end_fine answers zero = l
    end_fine [] (suc n) = subst (IsFine legal right) (sym (done_stays n [] s)) (l, r)
    end_fine (a ∷ answers) (suc n) = subst (IsFine legal right) (sym (done_stays n answers s)) (l, r)

    end_ends : (answers : List Answer) → (n : ℕ) × IsEnd (config_at n answers (Running [] s))
    end_ends [] = (1, tt)
    end_ends (a ∷ answers) = (1, tt)

    end_prompt : (answers : List Answer) → IsDone (config_at 1 answers (Running [] s))
    end_prompt [] = tt
    end_prompt (a ∷ answers) = tt

  -- what one step from a state may do, where op stands in front of ops
  pub data Move (I : State → Type 0) (op : Op) (ops : List Op) (most : ℕ) (s : State) (a : Answer) : Type 0 where
    on : (t : State) → next a (Running (op ∷ ops) s) ≡ Running ops t → Sound legal right ops t → Move I op ops most s a
    again : (t : State) → next a (Running (op ∷ ops) s) ≡ Running (op ∷ ops) t → I t → t.polls ≡ s.polls + 1 → t.polls < most → Move I op ops most s a
    out : (name : Timeout) (t : State) → next a (Running (op ∷ ops) s) ≡ TimedOut name t → legal t → Move I op ops most s a

  -- what each state of a set shows, for any answer
  pub record Keeps (I : State → Type 0) (op : Op) (ops : List Op) (most : ℕ) : Type 0 where
    pub now : (s : State) → I s → legal s
    pub with_flags : (s : State) → I s → (a : Answer) → legal (flags a s)
    pub move : (s : State) → I s → (a : Answer) → Move I op ops most s a
    -- where every flag comes, it goes on
    pub goes : (s : State) → I s → (a : Answer) → a.hse ≡ true → a.pll ≡ true → a.latency ≡ true → a.switch ≡ true → a.over ≡ true → a.over_switch ≡ true → (t : State) × (next a (Running (op ∷ ops) s) ≡ Running ops t) × Sound legal right ops t

  module _ (I : State → Type 0) (op : Op) (ops : List Op) (most : ℕ) (k : Keeps I op ops most) where
    fine_moved : (n : ℕ) (answers : List Answer) (s : State) (a : Answer) → ((t : State) → I t → IsFine legal right (config_at n answers (Running (op ∷ ops) t))) → Move I op ops most s a → IsFine legal right (config_at n answers (next a (Running (op ∷ ops) s)))
    fine_moved n answers s a rest (on t e d) = subst (λ c. IsFine legal right (config_at n answers c)) (sym e) (d.fine answers n)
    fine_moved n answers s a rest (again t e i p l) = subst (λ c. IsFine legal right (config_at n answers c)) (sym e) (rest t i)
    fine_moved n answers s a rest (out name t e l) = subst (λ c. IsFine legal right (config_at n answers c)) (sym e) (subst (IsFine legal right) (sym (out_stays n answers name t)) l)

    fine_from : (n : ℕ) (answers : List Answer) (s : State) → I s → IsFine legal right (config_at n answers (Running (op ∷ ops) s))
    fine_from zero answers s i = (k.now s i, k.with_flags s i)
    fine_from (suc n) [] s i = fine_moved n [] s silent (fine_from n []) (k.move s i silent)
    fine_from (suc n) (a ∷ answers) s i = fine_moved n answers s a (fine_from n answers) (k.move s i a)

    -- a run that ends after one more step
    after_one : (answers : List Answer) (s : State) (c : Config) (a : Answer) → next a (Running (op ∷ ops) s) ≡ c → ((n : ℕ) × IsEnd (config_at n answers c)) → (n : ℕ) × IsEnd (config_at n answers (next a (Running (op ∷ ops) s)))
    after_one answers s c a e h = subst (λ d. (n : ℕ) × IsEnd (config_at n answers d)) (sym e) h

    ends_moved : (answers : List Answer) (s : State) (a : Answer) → ((t : State) → I t → t.polls ≡ s.polls + 1 → t.polls < most → (n : ℕ) × IsEnd (config_at n answers (Running (op ∷ ops) t))) → Move I op ops most s a → (n : ℕ) × IsEnd (config_at n answers (next a (Running (op ∷ ops) s)))
    ends_moved answers s a rest (on t e d) = after_one answers s _ a e (d.ends answers)
    ends_moved answers s a rest (again t e i p l) = after_one answers s _ a e (rest t i p l)
    ends_moved answers s a rest (out name t e l) = after_one answers s _ a e (0, tt)

    first_end : (answers : List Answer) (c : Config) → ((n : ℕ) × IsEnd (config_at n [] (next silent c))) → (n : ℕ) × IsEnd (config_at n [] c)
    first_end answers c h = (suc h.0, h.1)

    ends_from : (left : ℕ) (answers : List Answer) (s : State) → I s → most ≤ s.polls + left → (n : ℕ) × IsEnd (config_at n answers (Running (op ∷ ops) s))
    ends_from zero [] s i l = let h = ends_moved [] s silent (λ t j p q. absurd (omega (arith, p, q))) (k.move s i silent) in (suc h.0, h.1)
    ends_from zero (a ∷ answers) s i l = let h = ends_moved answers s a (λ t j p q. absurd (omega (arith, p, q))) (k.move s i a) in (suc h.0, h.1)
    ends_from (suc left) [] s i l = let h = ends_moved [] s silent (λ t j p q. ends_from left [] t j (omega (arith, p))) (k.move s i silent) in (suc h.0, h.1)
    ends_from (suc left) (a ∷ answers) s i l = let h = ends_moved answers s a (λ t j p q. ends_from left answers t j (omega (arith, p))) (k.move s i a) in (suc h.0, h.1)

    prompt_from : (answers : List Answer) (s : State) → I s → AllCome answers → length (op ∷ ops) ≤ length answers → IsDone (config_at (suc (length (op ∷ ops))) answers (Running (op ∷ ops) s))
    prompt_from [] s i all len = absurd (omega arith)
    prompt_from (a ∷ answers) s i all len =
        let g = k.goes s i a all.0 all.1 all.2 all.3 all.4 all.5 in
        subst (λ c. IsDone (config_at (suc (length ops)) answers c)) (sym g.1) (g.2.prompt answers all.6 (omega arith))

    pub sound_from : (s : State) → I s → Sound legal right (op ∷ ops) s
    sound_from s i = record {
      fine = λ answers n. fine_from n answers s i;
      ends = λ answers. ends_from most answers s i (omega arith);
      prompt = λ answers all len. prompt_from answers s i all len;
    }

  -- an op that is no await
  pub sound_op : (op : Op) (ops : List Op) (s : State) (t : Answer → State) → legal s → ((a : Answer) → legal (flags a s)) → ((a : Answer) → next a (Running (op ∷ ops) s) ≡ Running ops (t a)) → ((a : Answer) → Sound legal right ops (t a)) → Sound legal right (op ∷ ops) s
  sound_op op ops s t l f e d =
      sound_from (λ u. u ≡ s) op ops 0 (record {
        now = λ u i. subst legal (sym i) l;
        with_flags = λ u i a. subst (λ v. legal (flags a v)) (sym i) (f a);
        move = λ u i a. on (t a) (ap (λ v. next a (Running (op ∷ ops) v)) i ∙ e a) (d a);
        goes = λ u i a p q r x y z. (t a, ap (λ v. next a (Running (op ∷ ops) v)) i ∙ e a, d a);
      }) s refl

  -- an await of one flag: st b p is the state with the flag b and p polls done
  pub record Awaits (st : Bool → ℕ → State) (come : Answer → Bool) (op : Op) (ops : List Op) (most : ℕ) (name : Timeout) : Type 0 where
    pub flags_are : (a : Answer) (b : Bool) (p : ℕ) → flags a (st b p) ≡ st (come a || b) p
    pub comes : (a : Answer) → a.hse ≡ true → a.pll ≡ true → a.latency ≡ true → a.switch ≡ true → a.over ≡ true → a.over_switch ≡ true → come a ≡ true
    pub polls_are : (b : Bool) (p : ℕ) → (st b p).polls ≡ p
    pub goes_on : (p : ℕ) → act (st true p) op ≡ (stepped.Went, st true 0)
    pub waits : (p : ℕ) → p + 1 < most → act (st false p) op ≡ (stepped.Waiting, st false (p + 1))
    pub times_out : (p : ℕ) → most ≤ p + 1 → act (st false p) op ≡ (stepped.TimedOut name, st false 0)
    pub is_legal : (b : Bool) (p : ℕ) → legal (st b p)
    pub rest : Sound legal right ops (st true 0)

  module _ (st : Bool → ℕ → State) (come : Answer → Bool) (op : Op) (ops : List Op) (most : ℕ) (name : Timeout) (w : Awaits st come op ops most name) where
    Stands : State → Type 0
    Stands s = (b : Bool) × (p : ℕ) × (p < most) × (s ≡ st b p)

    stepped_to : (a : Answer) (s : State) (b : Bool) (p : ℕ) → s ≡ st b p → next a (Running (op ∷ ops) s) ≡ after op ops (act (st (come a || b) p) op)
    stepped_to a s b p e = ap (λ u. after op ops (act (flags a u) op)) e ∙ ap (λ u. after op ops (act u op)) (w.flags_are a b p)

    moved : (a : Answer) (s : State) (c : Bool) (p : ℕ) → s.polls ≡ p → p < most → next a (Running (op ∷ ops) s) ≡ after op ops (act (st c p) op) → Move Stands op ops most s a
    unfolding Stands
    moved a s true p q l e = on (st true 0) (e ∙ ap (after op ops) (w.goes_on p)) w.rest
    moved a s false p q l e = elim (cases_lt (p + 1) most) [
      | inl y ↦ again (st false (p + 1)) (e ∙ ap (after op ops) (w.waits p y)) (false, p + 1, y, refl) (w.polls_are false (p + 1) ∙ omega (arith, q)) (omega (arith, w.polls_are false (p + 1)))
      | inr n ↦ out name (st false 0) (e ∙ ap (after op ops) (w.times_out p n)) (w.is_legal false 0)
    ]

    keeps : Keeps Stands op ops most
    unfolding Stands
    keeps = record {
      now = λ s i. subst legal (sym i.3) (w.is_legal i.0 i.1);
      with_flags = λ s i a. subst legal (sym (ap (flags a) i.3 ∙ w.flags_are a i.0 i.1)) (w.is_legal (come a || i.0) i.1);
      move = λ s i a. moved a s (come a || i.0) i.1 (ap (λ (u : State). u.polls) i.3 ∙ w.polls_are i.0 i.1) i.2 (stepped_to a s i.0 i.1 i.3);
      goes = λ s i a h q l x y z.
          let c = w.comes a h q l x y z in
          (st true 0, stepped_to a s i.0 i.1 i.3 ∙ ap (λ b. after op ops (act (st (b || i.0) i.1) op)) c ∙ ap (after op ops) (w.goes_on i.1), w.rest);
    }

    pub sound_await : (b : Bool) (p : ℕ) → p < most → Sound legal right (op ∷ ops) (st b p)
    unfolding Stands
    sound_await b p l = sound_from Stands op ops most keeps (st b p) (b, p, l, refl)

-- what follows from what is right at the end is right there too
fine_right : (legal right more : State → Type 0) → ((s : State) → right s → more s) → (c : Config) → IsFine legal right c → IsFine legal more c
fine_right legal right more h (Running [] s) f = f
fine_right legal right more h (Running (op ∷ ops) s) f = f
fine_right legal right more h (Done s) f = (f.0, h s f.1)
fine_right legal right more h (TimedOut name s) f = f
fine_right legal right more h (Forbidden rule s) f = f

pub sound_right : (legal right more : State → Type 0) (ops : List Op) (s : State) → ((u : State) → right u → more u) → Sound legal right ops s → Sound legal more ops s
sound_right legal right more ops s h d = record {
  fine = λ answers n. fine_right legal right more h (config_at n answers (Running ops s)) (d.fine answers n);
  ends = d.ends;
  prompt = d.prompt;
}
