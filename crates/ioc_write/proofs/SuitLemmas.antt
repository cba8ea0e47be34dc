-- What a problem keeps that is of a text: homes that differ, and needs that are texts without a home.
use Rattle.std.proofs.Common.{◌≡◌, ℕ, zero, suc, ◌+◌, ◌<◌, ◌&&◌, ◌||◌, List, [], ◌∷◌, ◌++◌, length, map, Bool, true, eqb, Option, Some, None, Result, Ok, Err, refl, sym, ap, ◌∙◌, subst, inl, inr, arith}
use Rattle.std.specs.Prelude.{find, nat_lt, slice_get}
use Rattle.std.specs.Option.{option_to_list}
use Rattle.std.specs.Str.{bytes_eq}
use Rattle.std.proofs.lemmas.Slice.Eq.{bytes_eq-Decides}
use Rattle.res_base.specs.Lists.{Each, Pairwise}
use Rattle.res_base.proofs.SumLemmas.{bool_cases}
use Rattle.res_model.specs.Clock.{IsInRange}
use Rattle.res_model.specs.Placed.{IsPlaced, rows_named}
use Rattle.res_model.specs.Placement.{fits, uses_at}
use Rattle.res_model.specs.Signals.{rows_of, signal_named}
use Rattle.res_model.specs.Valid.{IsSignal, IsText, IsValid}
use Rattle.res_model.specs.declared.opts.Opts.{Opts}
use Rattle.res_model.specs.declared.project.Home.{Home}
use Rattle.res_model.specs.declared.project.Project.{Project}
use Rattle.res_model.specs.declared.project.Signal.{Signal}
use Rattle.res_model.specs.declared.table.PinUse.{PinUse}
use Rattle.res_model.specs.declared.table.TableParts.{TableParts}
use Rattle.res_model.specs.declared.table.TableSignal.{TableSignal}
use Rattle.ioc_text.specs.declared.line.Line.{Line}
use Rattle.ioc_project.proofs.ProjectLaws.{read_keeps}
use Rattle.ioc_project.specs.Project.{capped, few, fixes_clock, fixes_signals, homes_of, hse_of, in_domains, kept_of, known_need, marks_of, need_of, needs_from, part_of, pin_lines, project_of, signals_after}
use Rattle.ioc_project.specs.declared.fault.ProjectFault.{ProjectFault}
use Rattle.ioc_project.specs.declared.fault.ProjectFault.TheVariants.{TooMany, UnknownNeed}
use Rattle.problem.specs.ClockValues.{clock_at}
use Rattle.problem.specs.Meets.{places_of}
use Rattle.problem.specs.Problem.{IsProblem, problem_of}
use Rattle.problem.specs.declared.parts.ProblemParts.{ProblemParts}
use Rattle.ioc_lines.specs.Standing.{HomesApart, StandAll}
use Rattle.ioc_lines.proofs.EntryLemmas.{both, same_ok}
use Rattle.ioc_lines.proofs.SignalLemmas.{all_stood}
use Rattle.ioc_write.specs.ReadsBack.{IsOfText}
use Rattle.ioc_write.specs.WriteBack.{uses_of}
use Rattle.ioc_write.proofs.MoveLemmas.{uses_apart}
use Rattle.ioc_write.proofs.OutLemmas.{NeedIs, Suits}

-- ---- uses are at pins

within_one : (n : ℕ) (values : List PinUse) (k : ℕ) → Each (λ (u : PinUse). u.pin < n) values → Each (λ (u : PinUse). u.pin < n) (option_to_list (slice_get values k))
within_one n [] k h = tt
within_one n (v ∷ vs) zero h = (h.0, tt)
within_one n (v ∷ vs) (suc k) h = within_one n vs k h.1

each_both : {X : Type 0} (P : X → Type 0) (xs ys : List X) → Each P xs → Each P ys → Each P (xs ++ ys)
each_both P [] ys h k = k
each_both P (x ∷ xs) ys h k = (h.0, each_both P xs ys h.1 k)

within_uses : (n : ℕ) (uses : List (List PinUse)) (at : List ℕ) → Each (λ (us : List PinUse). Each (λ (u : PinUse). u.pin < n) us) uses → Each (λ (u : PinUse). u.pin < n) (uses_at uses at)
within_uses n [] at h = tt
within_uses n (us ∷ uss) [] h = tt
within_uses n (us ∷ uss) (a ∷ bs) h = each_both (λ (u : PinUse). u.pin < n) (option_to_list (slice_get us a)) (uses_at uss bs) (within_one n us a h.0) (within_uses n uss bs h.1)

-- ---- the steps of a project that was read

pub record WasRead (t : TableParts) (ioc : List Line) (opts : Opts) (p : Project) : Type 0 where
  pub kept : Bool
  pub signals : List Signal
  pub needs : List Signal
  pub hertz : ℕ
  pub part : part_of t ioc ≡ Ok tt
  pub keeps : kept_of ioc ≡ Ok kept
  pub stand : StandAll t ioc (kept || fixes_signals opts.free) (map (λ (l : Line). l.value) (pin_lines ioc)) signals
  pub apart : Pairwise HomesApart signals
  pub needed : needs_from t 1 opts.needs ≡ Ok needs
  pub all : p.signals ≡ signals ++ needs
  pub hse : hse_of t ioc ≡ Ok hertz
  pub homes : homes_of t ioc ≡ Ok p.clock
  pub within : in_domains t (fixes_clock opts.free) p.clock ≡ Ok tt

few_same : (ss all : List Signal) → few ss ≡ Ok all → ss ≡ all
unfolding few
few_same ss all e = elim (bool_cases (nat_lt 160 (length ss))) [
  | inl y ↦ let f : (let r : Result (List Signal) ProjectFault = Err (TooMany (capped (length ss))) in r) ≡ Ok all = rw y at e in absurd cc
  | inr n ↦ let f : (let r : Result (List Signal) ProjectFault = Ok ss in r) ≡ Ok all = rw n at e in same_ok ss all f
]

done : (r : Result (Unit {0}) ProjectFault) (x : Unit {0}) → r ≡ Ok x → r ≡ Ok tt
done r x e = e

pub was_read : (t : TableParts) (ioc : List Line) (opts : Opts) (p : Project) → project_of t ioc opts true ≡ Ok p → WasRead t ioc opts p
unfolding project_of
was_read t ioc opts p e =
    let s1 = both (part_of t ioc) _ p e in
    let s2 = both (kept_of ioc) _ p s1.2 in
    let s3 = both (signals_after t ioc (s2.0 || fixes_signals opts.free) [] (pin_lines ioc)) _ p s2.2 in
    let s4 = both (needs_from t 1 opts.needs) _ p s3.2 in
    let s5 = both (few (s3.0 ++ s4.0)) _ p s4.2 in
    let s6 = both (hse_of t ioc) _ p s5.2 in
    let s7 = both (homes_of t ioc) _ p s6.2 in
    let s8 = both (in_domains t (true && fixes_clock opts.free) s7.0) _ p s7.2 in
    let is : (record { signals = s5.0; clock = s7.0; hse_hz = s6.0; marks = marks_of t ioc (pin_lines ioc) }) ≡ p = same_ok _ p s8.2 in
    let stood = all_stood t ioc (s2.0 || fixes_signals opts.free) (pin_lines ioc) [] s3.0 tt s3.1 in
    let clock : s7.0 ≡ p.clock = ap (λ (x : Project). x.clock) is in
    record {
      kept = s2.0;
      signals = s3.0;
      needs = s4.0;
      hertz = s6.0;
      part = done (part_of t ioc) s1.0 s1.1;
      keeps = s2.1;
      stand = subst (StandAll t ioc (s2.0 || fixes_signals opts.free) (map (λ (l : Line). l.value) (pin_lines ioc))) (sym stood.is) stood.stand;
      apart = stood.apart;
      needed = s4.1;
      all = ap (λ (x : Project). x.signals) (sym is) ∙ sym (few_same (s3.0 ++ s4.0) s5.0 s5.1);
      hse = s6.1;
      homes = s7.1 ∙ ap Ok clock;
      within = subst (λ (hs : List Home). in_domains t (fixes_clock opts.free) hs ≡ Ok tt) clock (done (in_domains t (fixes_clock opts.free) s7.0) s8.0 s8.1);
    }

-- ---- needs have no home

need_none : (n : ℕ) (o : Option TableSignal) (s : Signal) → known_need n o ≡ Ok s → s.home ≡ None
need_none n None s e = absurd cc
need_none n (Some x) s e = elim (bool_cases (eqb (length x.at) 0)) [
  | inl y ↦ let f : (let r : Result Signal ProjectFault = Err (UnknownNeed (capped n)) in r) ≡ Ok s = rw y at e in absurd cc
  | inr m ↦ let f = rw m at e in ap (λ (z : Signal). z.home) (sym (same_ok _ s f))
]

pub needs_none : (t : TableParts) (n : ℕ) (names : List (List ℕ)) (needs : List Signal) → needs_from t n names ≡ Ok needs → Each (λ (s : Signal). s.home ≡ None) needs
unfolding need_of
needs_none t n [] needs e = subst (Each (λ (s : Signal). s.home ≡ None)) (same_ok [] needs e) tt
needs_none t n (name ∷ names) needs e =
    let one = both (need_of t n name) _ needs e in
    let more = both (needs_from t (n + 1) names) _ needs one.2 in
    subst (Each (λ (s : Signal). s.home ≡ None)) (same_ok (one.0 ∷ more.0) needs more.2) (need_none n (signal_named t name) one.0 one.1, needs_none t (n + 1) names more.0 more.1)

none_apart : (needs : List Signal) → Each (λ (s : Signal). s.home ≡ None) needs → Pairwise HomesApart needs
none_apart [] h = tt
none_apart (s ∷ ss) h = (each ss, none_apart ss h.1)
  where
    each : (xs : List Signal) → Each (HomesApart s) xs
    each [] = tt
    each (x ∷ xs) = ((λ k a b. (let f : None ≡ Some k = sym h.0 ∙ a in absurd cc)), each xs)

far_none : (s : Signal) (needs : List Signal) → Each (λ (x : Signal). x.home ≡ None) needs → Each (HomesApart s) needs
far_none s [] h = tt
far_none s (x ∷ xs) h = ((λ k a b. (let f : None ≡ Some k = sym h.0 ∙ b in absurd cc)), far_none s xs h.1)

pub all_apart : (ss needs : List Signal) → Pairwise HomesApart ss → Each (λ (s : Signal). s.home ≡ None) needs → Pairwise HomesApart (ss ++ needs)
all_apart [] needs h n = none_apart needs n
all_apart (s ∷ ss) needs h n = (each_both (HomesApart s) ss needs h.0 (far_none s needs n), all_apart ss needs h.1 n)

-- ---- needs are signals of the table

found_text : (name : List ℕ) (ss : List TableSignal) (s : TableSignal) → Each (λ (x : TableSignal). IsText x.name) ss → find (λ (x : TableSignal). bytes_eq x.name name) ss ≡ Some s → IsText name
found_text name [] s h e = absurd cc
found_text name (x ∷ xs) s h e = elim (bool_cases (bytes_eq x.name name)) [
  | inl y ↦ subst IsText ((bytes_eq-Decides x.name name).0 y) h.0
  | inr n ↦ let more : find (λ (z : TableSignal). bytes_eq z.name name) xs ≡ Some s = rw n at e in found_text name xs s h.1 more
]

texts : (n : ℕ) (ss : List TableSignal) → Each (IsSignal n) ss → Each (λ (x : TableSignal). IsText x.name) ss
texts n [] h = tt
texts n (s ∷ ss) h = (h.0.text, texts n ss h.1)

rows_some : (o : Option TableSignal) → 0 < length (rows_of o) → (s : TableSignal) × (o ≡ Some s)
rows_some None l = absurd (omega arith)
rows_some (Some s) l = (s, refl)

need_text : (t : TableParts) → IsValid t → (s : Signal) → IsPlaced t s → NeedIs s
unfolding rows_named signal_named
need_text t v s h = (
  (λ y. (let r = rows_some (signal_named t s.name) (h.needed y).1 in found_text s.name t.signals r.0 (texts (length t.pins) t.signals v.signals.each) r.1)),
  (λ y. (h.needed y).0),
)

need_texts : (t : TableParts) → IsValid t → (ss : List Signal) → Each (IsPlaced t) ss → Each NeedIs ss
need_texts t v [] h = tt
need_texts t v (s ∷ ss) h = (need_text t v s h.0, need_texts t v ss h.1)

-- a problem of a text suits each choice that fits
pub suits : (text : List ℕ) (opts : Opts) (p : ProblemParts) (at : List ℕ) → IsValid p.tables → IsProblem p → fits p.tables (uses_of p at) ≡ true → IsInRange (clock_at p.clock at) → IsOfText text opts p → Suits p at
unfolding problem_of
suits text opts p at v a f r i =
    let w = was_read p.tables i.lines opts i.project i.is_read in
    let keeps = read_keeps p.tables i.lines opts true i.project i.is_read in
    let signals : p.signals ≡ i.project.signals = ap (λ (x : ProblemParts). x.signals) i.is_problem in
    record {
      uses = uses_apart p.tables (uses_of p at) f;
      within = within_uses (length p.tables.pins) p.uses (places_of p at) a.pins;
      homes = subst (Pairwise HomesApart) (sym (signals ∙ w.all)) (all_apart w.signals w.needs w.apart (needs_none p.tables 1 opts.needs w.needs w.needed));
      needs = subst (Each NeedIs) (sym signals) (need_texts p.tables v i.project.signals keeps.placed);
      are = v.pins;
      range = r;
    }
