-- The choice that the fields say lies in its ranges, and its nodes.
use Rattle.std.proofs.Common.{◌≡◌, ℕ, zero, suc, ◌/◌, ◌%◌, ◌^◌, ◌<◌, ◌≤◌, Bool, true, false, ◌&&◌, ◌||◌, leb, inl, inr, refl, ap, ◌∙◌, arith}
use Rattle.std.proofs.lemmas.Bool.Decides.{leb_tells}
use Rattle.reg_map.specs.Fields.{field_of}
use Rattle.reg_map.proofs.BitLemmas.{at_below}
use Rattle.res_model.specs.Clock.{IsBetween, IsInRange, IsOscillator, is_pll, nodes_of}
use Rattle.res_model.specs.declared.clock.ClockChoice.{ClockChoice}
use Rattle.res_model.specs.declared.clock.Facts.{Facts}
use Rattle.reg_machine.specs.Words.{IsStored}
use Rattle.reg_machine.specs.Tree.{m_of, n_of, q_of, hpre_value, ppre_value, choice_of, nodes_where}
use Rattle.reg_machine.specs.declared.state.State.{State}
use Rattle.res_model.specs.ClockValues.{source_of}

pub and_left : (a b : Bool) → (a && b) ≡ true → a ≡ true
and_left true b h = refl
and_left false b h = h

pub and_right : (a b : Bool) → (a && b) ≡ true → b ≡ true
and_right true b h = h
and_right false b h = cc

pub both : (a b : Bool) → a ≡ true → b ≡ true → (a && b) ≡ true
both a b h k = ap (λ x. x && b) h ∙ k

pub leb_true : (a b : ℕ) → leb a b ≡ true → a ≤ b
leb_true a b e = elim (leb_tells a b) [ inl t ↦ t.1 | inr n ↦ absurd (cc) ]

between : (low x high : ℕ) → (leb low x && leb x high) ≡ true → IsBetween low high x
between low x high h = (leb_true low x (and_left (leb low x) (leb x high) h), leb_true x high (and_right (leb low x) (leb x high) h))

hpre_between : (code : ℕ) → code < 16 → IsBetween 1 512 (hpre_value code)
hpre_between code l = between 1 (hpre_value code) 512 (at_below 16 code (λ x. leb 1 (hpre_value x) && leb (hpre_value x) 512) refl l)

ppre_between : (code : ℕ) → code < 8 → IsBetween 1 16 (ppre_value code)
ppre_between code l = between 1 (ppre_value code) 16 (at_below 8 code (λ x. leb 1 (ppre_value x) && leb (ppre_value x) 16) refl l)

oscillator : (x : ℕ) → x < 2 → IsOscillator (source_of x)
oscillator zero l = tt
oscillator (suc zero) l = tt
oscillator (suc (suc x)) l = absurd (omega arith)

-- M, N and Q of a word that the PLL takes
pub record AreTaken (m n q : ℕ) : Type 0 where
  pub m_least : 2 ≤ m
  pub n_least : 50 ≤ n
  pub n_most : n ≤ 432
  pub q_least : 2 ≤ q

taken : (m n q : ℕ) → (leb 2 m && (leb 50 n && (leb n 432 && leb 2 q))) ≡ true → AreTaken m n q
taken m n q h =
    let from_n = and_right (leb 2 m) (leb 50 n && (leb n 432 && leb 2 q)) h in
    let from_most = and_right (leb 50 n) (leb n 432 && leb 2 q) from_n in
    record {
      m_least = leb_true 2 m (and_left (leb 2 m) (leb 50 n && (leb n 432 && leb 2 q)) h);
      n_least = leb_true 50 n (and_left (leb 50 n) (leb n 432 && leb 2 q) from_n);
      n_most = leb_true n 432 (and_left (leb n 432) (leb 2 q) from_most);
      q_least = leb_true 2 q (and_right (leb n 432) (leb 2 q) from_most);
    }

pub choice_in_range : (s : State) (source : ℕ) → IsStored s → IsInRange (choice_of s source)
choice_in_range s source h =
    let t = taken (m_of s.pllcfgr) (n_of s.pllcfgr) (q_of s.pllcfgr) h.pll_whole in
    record {
      psrc = oscillator (s.pllcfgr / 2 ^ 22 % 2) (omega arith);
      hpre = hpre_between (field_of 4 4 s.cfgr) (omega arith);
      p = (omega arith, omega arith);
      m = (t.m_least, omega arith);
      n = (t.n_least, t.n_most);
      q = (t.q_least, omega arith);
      ppre1 = ppre_between (field_of 10 3 s.cfgr) (omega arith);
      ppre2 = ppre_between (field_of 13 3 s.cfgr) (omega arith);
    }

or_true : (x : Bool) → (x || true) ≡ true
or_true true = refl
or_true false = refl

pub all_used : (f : Facts) (c : ClockChoice) → nodes_of (record f { need48 = true }) c ≡ nodes_where true f c
unfolding nodes_of
all_used f c = ap (λ b. nodes_where b f c) (or_true (is_pll c.src))
