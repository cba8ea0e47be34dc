-- Signals are read where the lines of their pins put them, and the other way round.
use Rattle.std.proofs.Common.{◌≡◌, ◌≢◌, ◌⊎◌, ℕ, ◌==◌, ◌||◌, List, [], ◌∷◌, ◌++◌, map, Bool, true, false, cond, Option, Some, None, Result, Ok, Err, refl, sym, ap, ◌∙◌, subst, inl, inr, append_assoc, append-nil, arith}
use Rattle.std.specs.Prelude.{codes}
use Rattle.std.specs.List.{list_any}
use Rattle.std.proofs.lemmas.Bool.Decides.{nat_tests}
use Rattle.res_base.specs.Lists.{Each, Pairwise}
use Rattle.res_base.proofs.ListLemmas.{pairs_push}
use Rattle.res_base.proofs.SumLemmas.{bool_cases}
use Rattle.res_model.specs.Steps.{◌>>=◌}
use Rattle.res_model.specs.declared.project.Pull.{Pull}
use Rattle.res_model.specs.declared.project.Pull.TheVariants.{None as NoPull}
use Rattle.res_model.specs.declared.project.Signal.{Signal}
use Rattle.res_model.specs.declared.project.Speed.{Speed}
use Rattle.res_model.specs.declared.project.Speed.TheVariants.{Low}
use Rattle.res_model.specs.declared.table.TableParts.{TableParts}
use Rattle.res_model.specs.declared.table.TableSignal.{TableSignal}
use Rattle.ioc_text.specs.declared.line.Line.{Line}
use Rattle.ioc_project.specs.Project.{candidate, free_place, is_some_of, is_taken, is_virtual, known_pin, name_given, pin_line_at, place_for, place_of, pull_of, signal_given, signal_of, signals_after, speed_of, truth_of, value_or, with_pin}
use Rattle.ioc_project.specs.declared.fault.ProjectFault.{ProjectFault}
use Rattle.ioc_project.specs.declared.fault.ProjectFault.TheVariants.{BadValue}
use Rattle.ioc_lines.specs.Standing.{HomesApart, IsFine, IsGiven, PutAll, Puts, StandAll, Stands}
use Rattle.ioc_lines.proofs.EntryLemmas.{both, same_ok}

abbrev pub name_on : Signal → List ℕ
name_on s = s.name

abbrev pub home_on : Signal → Option ℕ
home_on s = s.home

abbrev pub Place : Type 0
Place = ℕ × List ℕ

-- ---- a signal at its place

module _ (t : TableParts) (ioc : List Line) (kept : Bool) (before : List Signal) (line : Line) (place : ℕ) (name : List ℕ) (p : Puts t ioc line.value place name) (free : is_taken before place ≡ false) where
  for_place : place_for t before line ≡ Ok place
  unfolding place_for
  for_place = rw p.there (rw free refl)

  pub the_signal : Signal
  the_signal = record { name = name_given p.given.signal; home = Some place; locked = p.locked.0 || kept; need = false; pull = p.pull.0; speed = p.speed.0 }

  one_read : signal_of t ioc kept before line ≡ Ok the_signal
  unfolding signal_of the_signal
  one_read = rw (for_place, p.given.reads, p.locked.1, p.pull.1, p.speed.1, p.given.can (p.locked.0 || kept)) refl

  pub one_put : with_pin t ioc kept before line ≡ Ok (before ++ the_signal ∷ [])
  unfolding with_pin
  one_put = rw (p.real, one_read) refl

  pub its_name : the_signal.name ≡ name
  unfolding the_signal
  its_name = p.given.named

  pub its_home : the_signal.home ≡ Some place
  unfolding the_signal
  its_home = refl

virtual_passed : (t : TableParts) (ioc : List Line) (kept : Bool) (before : List Signal) (line : Line) → is_virtual line.value ≡ true → with_pin t ioc kept before line ≡ Ok before
unfolding with_pin
virtual_passed t ioc kept before line e = rw e refl

-- ---- all signals

any_push : (p : Signal → Bool) (ss : List Signal) (s : Signal) → list_any p ss ≡ false → p s ≡ false → list_any p (ss ++ s ∷ []) ≡ false
any_push p [] s h e = rw e refl
any_push p (x ∷ xs) s h e = elim (bool_cases (p x)) [
  | inl t ↦ let f : true ≡ false = rw t at h in absurd cc
  | inr t ↦ let f : list_any p xs ≡ false = rw t at h in rw t (any_push p xs s f e)
]

-- no signal before is at one of these places
abbrev pub AreFree : List Signal → List Place → Type 0
AreFree before ps = Each (λ (p : Place). is_taken before p.0 ≡ false) ps

abbrev pub PlacesDiffer : List Place → Type 0
PlacesDiffer ps = Pairwise (λ (a b : Place). a.0 ≢ b.0) ps

still_free : (before : List Signal) (s : Signal) (place : ℕ) (ps : List Place) → s.home ≡ Some place → AreFree before ps → Each (λ (p : Place). place ≢ p.0) ps → AreFree (before ++ s ∷ []) ps
unfolding is_taken
still_free before s place [] e f d = tt
still_free before s place (p ∷ ps) e f d =
    let other : is_some_of (Some place) p.0 ≡ false = (let n : place ≢ p.0 = d.0 in grind (arith, nat_tests)) in
    (any_push (λ (x : Signal). is_some_of x.home p.0) before s f.0 (ap (λ (o : Option ℕ). is_some_of o p.0) e ∙ other), still_free before s place ps e f.1 d.1)

-- what is read after those before
pub record Found (t : TableParts) (ioc : List Line) (kept : Bool) (before : List Signal) (lines : List Line) (ps : List Place) : Type 0 where
  pub more : List Signal
  pub reads : signals_after t ioc kept before lines ≡ Ok (before ++ more)
  pub names : map name_on more ≡ map (λ (p : Place). p.1) ps
  pub homes : map home_on more ≡ map (λ (p : Place). Some p.0) ps

module _ (t : TableParts) (ioc : List Line) (kept : Bool) where
  -- a line that adds nothing
  passed : (before : List Signal) (line : Line) (lines : List Line) (ps : List Place) → is_virtual line.value ≡ true → Found t ioc kept before lines ps → Found t ioc kept before (line ∷ lines) ps
  passed before line lines ps e f = record {
    more = f.more;
    reads = ap (λ (r : Result (List Signal) ProjectFault). r >>= (λ found. signals_after t ioc kept found lines)) (virtual_passed t ioc kept before line e) ∙ f.reads;
    names = f.names;
    homes = f.homes;
  }

  added : (before : List Signal) (line : Line) (lines : List Line) (p : Place) (ps : List Place) (puts : Puts t ioc line.value p.0 p.1) (free : is_taken before p.0 ≡ false)
      → Found t ioc kept (before ++ the_signal t ioc kept before line p.0 p.1 puts free ∷ []) lines ps → Found t ioc kept before (line ∷ lines) (p ∷ ps)
  added before line lines p ps puts free f =
      let s = the_signal t ioc kept before line p.0 p.1 puts free in
      record {
        more = s ∷ f.more;
        reads = ap (λ (r : Result (List Signal) ProjectFault). r >>= (λ found. signals_after t ioc kept found lines)) (one_put t ioc kept before line p.0 p.1 puts free)
            ∙ f.reads ∙ ap Ok (append_assoc before (s ∷ []) f.more);
        names = ap (λ (n : List ℕ). n ∷ map name_on f.more) (its_name t ioc kept before line p.0 p.1 puts free) ∙ ap (λ (ns : List (List ℕ)). p.1 ∷ ns) f.names;
        homes = ap (λ (h : Option ℕ). h ∷ map home_on f.more) (its_home t ioc kept before line p.0 p.1 puts free) ∙ ap (λ (hs : List (Option ℕ)). Some p.0 ∷ hs) f.homes;
      }

  -- the lines put these signals at free places that differ, so they are read
  pub all_put : (lines : List Line) (before : List Signal) (ps : List Place) → PutAll t ioc (map (λ (l : Line). l.value) lines) ps → AreFree before ps → PlacesDiffer ps → Found t ioc kept before lines ps
  all_put [] before [] h f d = record { more = []; reads = ap Ok (sym (append-nil before)); names = refl; homes = refl }
  all_put [] before (p ∷ ps) h f d = absurd h
  all_put (line ∷ lines) before [] h f d = passed before line lines [] h.0 (all_put lines before [] h.1 f d)
  all_put (line ∷ lines) before (p ∷ ps) (inl h) f d = passed before line lines (p ∷ ps) h.0 (all_put lines before (p ∷ ps) h.1 f d)
  all_put (line ∷ lines) before (p ∷ ps) (inr h) f d =
      let s = the_signal t ioc kept before line p.0 p.1 h.0 f.0 in
      added before line lines p ps h.0 f.0
      (all_put lines (before ++ s ∷ []) ps h.1 (still_free before s p.0 ps (its_home t ioc kept before line p.0 p.1 h.0 f.0) f.1 d.0) d.1)

  -- ---- the other way round

  known : (n : ℕ) (found : Option ℕ) (place : ℕ) → known_pin n found ≡ Ok place → found ≡ Some place
  known n None place e = absurd cc
  known n (Some p) place e = ap Some (same_ok p place e)

  free_same : (n : ℕ) (taken : Bool) (place home : ℕ) → cond taken (Err (BadValue n)) (Ok place) ≡ Ok home → (place ≡ home) × (taken ≡ false)
  free_same n true place home e = absurd cc
  free_same n false place home e = (cc, refl)

  -- where the signal of a line is
  pub record PlaceRead (before : List Signal) (line : Line) (home : ℕ) : Type 0 where
    pub there : place_of t line.value ≡ Some home
    pub free : is_taken before home ≡ false

  place_read : (before : List Signal) (line : Line) (home : ℕ) → place_for t before line ≡ Ok home → PlaceRead before line home
  unfolding place_for
  place_read before line home e =
      let s = both (known_pin line.number (place_of t line.value)) (free_place line.number before) home e in
      let f = free_same line.number (is_taken before s.0) s.0 home s.2 in
      record { there = known line.number (place_of t line.value) s.0 s.1 ∙ ap Some f.0; free = subst (λ (n : ℕ). is_taken before n ≡ false) f.0 f.1 }

  pub record StoodAt (before : List Signal) (line : Line) (s : Signal) : Type 0 where
    pub stands : Stands t ioc kept line.value s
    pub free : is_taken before stands.home ≡ false

  one_stands : (before : List Signal) (line : Line) (s : Signal) → is_virtual line.value ≡ false → signal_of t ioc kept before line ≡ Ok s → StoodAt before line s
  unfolding signal_of
  one_stands before line s real e =
      let s1 = both (place_for t before line) _ s e in
      let s2 = both (signal_given t (pin_line_at ioc line.value (codes ".Signal"))) _ s s1.2 in
      let s3 = both (value_or false truth_of (pin_line_at ioc line.value (codes ".Locked"))) _ s s2.2 in
      let s4 = both (value_or NoPull pull_of (pin_line_at ioc line.value (codes ".GPIO_PuPd"))) _ s s3.2 in
      let s5 = both (value_or Low speed_of (pin_line_at ioc line.value (codes ".GPIO_Speed"))) _ s s4.2 in
      let s6 = both (candidate (s3.0 || kept) s1.0 s2.0) _ s s5.2 in
      let place = place_read before line s1.0 s1.1 in
      let is : (record { name = name_given s2.0; home = Some s1.0; locked = s3.0 || kept; need = false; pull = s4.0; speed = s5.0 }) ≡ s = same_ok _ s s6.2 in
      record {
        stands = record {
          real = real;
          home = s1.0;
          at_home = sym (ap home_on is);
          there = place.there;
          signal = s2.0;
          reads = s2.1;
          named = sym (ap name_on is);
          locked = (s3.0, s3.1);
          pull = (s4.0, s4.1);
          speed = (s5.0, s5.1);
        };
        free = place.free;
      }

  taken_apart : (before : List Signal) (x : Signal) (home : ℕ) → x.home ≡ Some home → is_taken before home ≡ false → Each (λ (b : Signal). HomesApart b x) before
  unfolding is_taken
  taken_apart [] x home e f = tt
  taken_apart (b ∷ bs) x home e f = elim (bool_cases (is_some_of b.home home)) [
    | inl y ↦ let off : true ≡ false = rw y at f in absurd cc
    | inr n ↦
        let more : list_any (λ (s : Signal). is_some_of s.home home) bs ≡ false = rw n at f in (
          λ h p q. (let same : Some h ≡ Some home = sym q ∙ e in
              let is : h ≡ home = cc in
              let there : is_some_of b.home home ≡ (h == home) = ap (λ (o : Option ℕ). is_some_of o home) p in
              let yes : (h == home) ≡ true = grind (arith, nat_tests) in
              absurd cc),
          taken_apart bs x home e more,
        )
  ]

  -- what was read after those before
  pub record Stood (before after : List Signal) (lines : List Line) : Type 0 where
    pub more : List Signal
    pub is : after ≡ before ++ more
    pub stand : StandAll t ioc kept (map (λ (l : Line). l.value) lines) more
    pub apart : Pairwise HomesApart after

  virtual_on : (line : Line) (lines : List Line) (more : List Signal) → is_virtual line.value ≡ true → StandAll t ioc kept (map (λ (l : Line). l.value) lines) more → StandAll t ioc kept (map (λ (l : Line). l.value) (line ∷ lines)) more
  virtual_on line lines [] e h = (e, h)
  virtual_on line lines (s ∷ ss) e h = inl (e, h)

  when_virtual : (before x : List Signal) (line : Line) → is_virtual line.value ≡ true → with_pin t ioc kept before line ≡ Ok x → before ≡ x
  unfolding with_pin
  when_virtual before x line v e = let f : Ok before ≡ Ok x = rw v at e in same_ok before x f

  when_real : (before x : List Signal) (line : Line) → is_virtual line.value ≡ false → with_pin t ioc kept before line ≡ Ok x → (signal_of t ioc kept before line >>= (λ s. Ok (before ++ s ∷ []))) ≡ Ok x
  unfolding with_pin
  when_real before x line v e = rw v at e

  pub all_stood : (lines : List Line) (before after : List Signal) → Pairwise HomesApart before → signals_after t ioc kept before lines ≡ Ok after → Stood before after lines
  all_stood [] before after d e =
      let same = same_ok before after e in
      record { more = []; is = sym same ∙ sym (append-nil before); stand = tt; apart = subst (Pairwise HomesApart) same d }
  all_stood (line ∷ lines) before after d e =
      let s = both (with_pin t ioc kept before line) (λ (found : List Signal). signals_after t ioc kept found lines) after e in
      elim (bool_cases (is_virtual line.value)) [
        | inl v ↦
            let same = when_virtual before s.0 line v s.1 in
            let r = all_stood lines before after d (subst (λ (b : List Signal). signals_after t ioc kept b lines ≡ Ok after) (sym same) s.2) in
            record { more = r.more; is = r.is; stand = virtual_on line lines r.more v r.stand; apart = r.apart }
        | inr v ↦
            let x = both (signal_of t ioc kept before line) (λ x. Ok (before ++ x ∷ [])) s.0 (when_real before s.0 line v s.1) in
            let at = one_stands before line x.0 v x.1 in
            let next = pairs_push HomesApart before x.0 d (taken_apart before x.0 at.stands.home at.stands.at_home at.free) in
            let r = all_stood lines (before ++ x.0 ∷ []) after next (subst (λ (b : List Signal). signals_after t ioc kept b lines ≡ Ok after) (sym (same_ok (before ++ x.0 ∷ []) s.0 x.2)) s.2) in
            record {
              more = x.0 ∷ r.more;
              is = r.is ∙ append_assoc before (x.0 ∷ []) r.more;
              stand = inr (at.stands, r.stand);
              apart = r.apart;
            }
      ]
