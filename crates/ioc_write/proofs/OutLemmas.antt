-- The text that is written is read without a fault, and says what the choice leaves of each entry, and then what is appended.
use Rattle.std.proofs.Common.{◌≡◌, ◌≢◌, ℕ, suc, ◌+◌, ◌^◌, ◌<◌, ◌≤◌, ◌&&◌, List, [], ◌∷◌, ◌++◌, length, map, Bool, true, false, not, Some, None, Ok, Err, refl, sym, ap, ◌∙◌, subst, inl, inr, append_assoc, arith}
use Rattle.std.specs.Prelude.{nat_lt}
use Rattle.std.specs.List.{flat_map}
use Rattle.std.specs.Str.Lines.{lines}
use Rattle.std.proofs.lemmas.Bool.Decides.{nat_tests}
use Rattle.std.proofs.lemmas.List.{map-append}
use Rattle.res_base.specs.Lists.{Each, Member, Pairwise}
use Rattle.res_base.proofs.SumLemmas.{bool_cases}
use Rattle.res_model.specs.Clock.{IsInRange}
use Rattle.res_model.specs.Valid.{ArePins, IsText}
use Rattle.res_model.specs.declared.project.Signal.{Signal}
use Rattle.res_model.specs.declared.table.PinUse.{PinUse}
use Rattle.res_model.specs.declared.table.TableParts.{TableParts}
use Rattle.ioc_text.specs.Lines.{ioc_after, ioc_of, line_of, pin_number}
use Rattle.ioc_text.specs.declared.line.Line.{Line}
use Rattle.problem.specs.ClockValues.{clock_at}
use Rattle.problem.specs.declared.parts.ProblemParts.{ProblemParts}
use Rattle.ioc_lines.specs.Entries.{AreApart, Differ, Entry, Reads, entries, entry_if, entry_of, lines_from}
use Rattle.ioc_lines.specs.Lines.{TextLine, text_lines, unended}
use Rattle.ioc_lines.specs.Standing.{HomesApart}
use Rattle.ioc_lines.proofs.EntryLemmas.{all_read, both, read_all}
use Rattle.ioc_lines.proofs.LookupLemmas.{entries_apart, entries_on, lines_apart}
use Rattle.ioc_lines.proofs.TextCuts.{IsParted, if_any, says_on, text_parted}
use Rattle.ioc_lines.proofs.TextLemmas.{they_say}
use Rattle.ioc_write.specs.Reading.{changed}
use Rattle.ioc_write.specs.WriteBack.{appended, clock_key, clock_lines, followed_by, has_variable, is_away, lines_back, lines_written, needs_lines, needs_of, next_number, pin_name, pin_numbers, pins_written, uses_of, variable_of, variables, variables_on, written_back}
use Rattle.ioc_write.specs.declared.fault.BackFault.TheVariants.{NoNumber}
use Rattle.ioc_write.specs.declared.variable.Variable.{Variable}
use Rattle.ioc_write.proofs.ApartLemmas.{FarFrom, NotReached, all_clocks, apart_append, apart_near, clock_first, clocks_apart, far_changed, far_clock, far_near, needs_apart, no_signal_key, only_itself, pin_first, variable_of_key}
use Rattle.ioc_write.proofs.AppendLemmas.{IsEntry, NeedsAre, added_append, are_added, clock_entries, clocks_added, clocks_are, entries_of_texts, need_entries, needs_added, needs_are, needs_in, number_of_key, pin_key, signal_key, texts_of}
use Rattle.ioc_write.proofs.ChangeLemmas.{Becomes, IsSet, changed_apart}
use Rattle.ioc_write.proofs.KeysOn.{HasVariable, IsBelow, numbers_below, variables_had}
use Rattle.ioc_write.proofs.MoveLemmas.{Move, UsesApart, from_apart, moves, pins_apart}
use Rattle.ioc_write.proofs.LineBack.{same_ok}
use Rattle.ioc_write.proofs.LineChanges.{Bytes}
use Rattle.ioc_write.proofs.TextBack.{IsClosed, IsWritten, NearAll, added, followed_says, tail_says, written}

-- ---- what a problem, a table and a choice say

abbrev pub NeedIs : Signal → Type 0
NeedIs s = (s.need ≡ true → IsText s.name) × (s.need ≡ true → s.home ≡ None)

pub record Suits (p : ProblemParts) (at : List ℕ) : Type 0 where
  pub uses : Pairwise UsesApart (uses_of p at)
  pub within : Each (λ (u : PinUse). u.pin < length p.tables.pins) (uses_of p at)
  pub homes : Pairwise HomesApart p.signals
  pub needs : Each NeedIs p.signals
  pub are : ArePins p.tables.pins
  pub range : IsInRange (clock_at p.clock at)

within_moves : (n : ℕ) (ss : List Signal) (us : List PinUse) → Each (λ (u : PinUse). u.pin < n) us → Each (λ (m : Signal × PinUse). m.1.pin < n) (moves ss us)
within_moves n [] us h = tt
within_moves n (s ∷ ss) [] h = tt
within_moves n (s ∷ ss) (u ∷ us) h = (h.0, within_moves n ss us h.1)

pub set_of : (p : ProblemParts) (at : List ℕ) → Suits p at → IsSet p at
set_of p at s = record {
  pins = pins_apart p.signals (uses_of p at) s.uses;
  homes = from_apart p.signals (uses_of p at) s.homes;
  within = within_moves (length p.tables.pins) p.signals (uses_of p at) s.within;
  are = s.are;
}

needs_are_by : (t : TableParts) (ss : List Signal) (us : List PinUse) → Each NeedIs ss → Each (λ (u : PinUse). u.pin < length t.pins) us → NeedsAre t ss us
needs_are_by t [] us h w = tt
needs_are_by t (s ∷ ss) [] h w = tt
needs_are_by t (s ∷ ss) (u ∷ us) h w = ((h.0.0, w.0), needs_are_by t ss us h.1 w.1)

pub needs_counted : (ss : List Signal) → needs_in ss ≡ needs_of ss
needs_counted [] = refl
needs_counted (s ∷ ss) = elim (bool_cases s.need) [
  | inl y ↦ rw y (ap suc (needs_counted ss))
  | inr n ↦ rw n (needs_counted ss)
]

-- ---- keys of what is appended, one by one

pub all_needs : (t : TableParts) (P : List ℕ → Type 0) (ss : List Signal) (us : List PinUse) (k : ℕ) → ((j : ℕ) → k ≤ j → j < 2 ^ 64 → P (pin_key j))
    → ((m : Move) → Member m (moves ss us) → m.0.need ≡ true → P (signal_key (pin_name t m.1.pin))) → k + needs_in ss ≤ 2 ^ 64 → Each (λ (e : Entry). P e.0) (need_entries t k ss us)
all_needs t P [] us k f g room = tt
all_needs t P (s ∷ ss) [] k f g room = tt
all_needs t P (s ∷ ss) (u ∷ us) k f g room = elim (bool_cases s.need) [
  | inl y ↦
      let more : k + suc (needs_in ss) ≤ 2 ^ 64 = rw y at room in
      rw y (f k (omega arith) (omega (arith, more)), (g (s, u) (inl refl) y, all_needs t P ss us (k + 1) (λ j l b. f j (omega (arith, l)) b) (λ m i n. g m (inr i) n) (omega (arith, more))))
  | inr n ↦ let more : k + needs_in ss ≤ 2 ^ 64 = rw n at room in rw n (all_needs t P ss us k f (λ m i y. g m (inr i) y) more)
]

-- what holds of a signal holds of its move
pub need_moves : (ss : List Signal) (us : List PinUse) (m : Move) → Each NeedIs ss → Member m (moves ss us) → NeedIs m.0
need_moves [] us m h i = absurd i
need_moves (s ∷ ss) [] m h i = absurd i
need_moves (s ∷ ss) (u ∷ us) m h (inl e) = subst (λ (x : Move). NeedIs x.0) (sym e) h.0
need_moves (s ∷ ss) (u ∷ us) m h (inr i) = need_moves ss us m h.1 i

pub inside_moves : (n : ℕ) (ss : List Signal) (us : List PinUse) (m : Move) → Each (λ (u : PinUse). u.pin < n) us → Member m (moves ss us) → m.1.pin < n
inside_moves n [] us m h i = absurd i
inside_moves n (s ∷ ss) [] m h i = absurd i
inside_moves n (s ∷ ss) (u ∷ us) m h (inl e) = subst (λ (x : Move). x.1.pin < n) (sym e) h.0
inside_moves n (s ∷ ss) (u ∷ us) m h (inr i) = inside_moves n ss us m h.1 i

each_both : {X : Type 0} (P : X → Type 0) (xs ys : List X) → Each P xs → Each P ys → Each P (xs ++ ys)
each_both P [] ys h k = k
each_both P (x ∷ xs) ys h k = (h.0, each_both P xs ys h.1 k)

each_where : (P Q : Entry → Type 0) (es : List Entry) → ((e : Entry) → P e → Q e) → Each P es → Each Q es
each_where P Q [] f h = tt
each_where P Q (e ∷ es) f h = (f e h.0, each_where P Q es f h.1)

true_parts : (a b : Bool) → a && not b ≡ true → b ≡ false
true_parts true true e = absurd cc
true_parts true false e = refl
true_parts false b e = absurd cc

variables_differ : Pairwise (λ (v w : Variable). v ≢ w) variables
variables_differ = (
  ((λ e. absurd cc), ((λ e. absurd cc), ((λ e. absurd cc), ((λ e. absurd cc), ((λ e. absurd cc), ((λ e. absurd cc), ((λ e. absurd cc), ((λ e. absurd cc), tt)))))))),
  (
    ((λ e. absurd cc), ((λ e. absurd cc), ((λ e. absurd cc), ((λ e. absurd cc), ((λ e. absurd cc), ((λ e. absurd cc), ((λ e. absurd cc), tt))))))),
    (
      ((λ e. absurd cc), ((λ e. absurd cc), ((λ e. absurd cc), ((λ e. absurd cc), ((λ e. absurd cc), ((λ e. absurd cc), tt)))))),
      (
        ((λ e. absurd cc), ((λ e. absurd cc), ((λ e. absurd cc), ((λ e. absurd cc), ((λ e. absurd cc), tt))))),
        (
          ((λ e. absurd cc), ((λ e. absurd cc), ((λ e. absurd cc), ((λ e. absurd cc), tt)))),
          (
            ((λ e. absurd cc), ((λ e. absurd cc), ((λ e. absurd cc), tt))),
            (
              ((λ e. absurd cc), ((λ e. absurd cc), tt)),
              (
                ((λ e. absurd cc), tt),
                (
                  tt,
                  tt,
                ),
              ),
            ),
          ),
        ),
      ),
    ),
  ),
)

-- ---- the entries that are written

abbrev pub appended_entries : ProblemParts → List ℕ → ℕ → List Variable → List Entry
appended_entries p at k keys = need_entries p.tables k p.signals (uses_of p at) ++ clock_entries p at keys variables

module _ (p : ProblemParts) (at : List ℕ) (s : Suits p at) (pins k : ℕ) (keys : List Variable) (room : k + needs_in p.signals ≤ 2 ^ 64) where
  are_entries : Each IsEntry (appended_entries p at k keys)
  are_entries = each_both IsEntry (need_entries p.tables k p.signals (uses_of p at)) (clock_entries p at keys variables)
      (needs_are p.tables s.are p.signals (uses_of p at) k room (needs_are_by p.tables p.signals (uses_of p at) s.needs s.within)) (clocks_are p at keys s.range variables)

  pub appended_added : needs_lines p.tables k p.signals (uses_of p at) ++ clock_lines p at keys variables ≡ added (texts_of (appended_entries p at k keys))
  appended_added =
      ap (λ (x : List ℕ). x ++ clock_lines p at keys variables) (needs_added p.tables p.signals (uses_of p at) k room)
      ∙ ap (λ (x : List ℕ). added (texts_of (need_entries p.tables k p.signals (uses_of p at))) ++ x) (clocks_added p at keys s.range variables)
      ∙ sym (added_append (need_entries p.tables k p.signals (uses_of p at)) (clock_entries p at keys variables))

  appended_apart : AreApart (appended_entries p at k keys)
  appended_apart = apart_append (need_entries p.tables k p.signals (uses_of p at)) (clock_entries p at keys variables)
      (needs_apart p.tables s.are p.signals (uses_of p at) k room s.within s.uses) (clocks_apart p at keys variables variables_differ)
      (all_clocks p at keys (λ (key : List ℕ). FarFrom key (need_entries p.tables k p.signals (uses_of p at))) variables (λ v y. far_clock p.tables s.are v p.signals (uses_of p at) k s.within))

  module _ (es : List Entry) (below : Each (IsBelow k) es) (had : Each (HasVariable keys) es) where
    no_pin_key : (j : ℕ) → k ≤ j → j < 2 ^ 64 → NotReached p at (set_of p at s) pins es (pin_key j)
    no_pin_key j l b = each_where (IsBelow k) (λ (e : Entry). Becomes p at e.0 (pin_key j) → ⊥) es
        (λ e h r. (let same = only_itself p at (set_of p at s) pins e.0 (pin_key j) 77 _ (pin_first j) (λ q. omega (arith, q)) r in
        let is : pin_number e.0 ≡ Some j = ap pin_number (sym same) ∙ number_of_key j b in
        let less = h j is in omega (arith, less, l))) below

    no_signal : (m : Move) → Member m (moves p.signals (uses_of p at)) → m.0.need ≡ true → NotReached p at (set_of p at s) pins es (signal_key (pin_name p.tables m.1.pin))
    no_signal m i n = each_where (IsBelow k) (λ (e : Entry). Becomes p at e.0 (signal_key (pin_name p.tables m.1.pin)) → ⊥) es
        (λ e h r. no_signal_key p at (set_of p at s) pins e.0 m i ((need_moves p.signals (uses_of p at) m s.needs i).1 n) (inside_moves (length p.tables.pins) p.signals (uses_of p at) m s.within i) r) below

    no_clock : (v : Variable) → is_away p at v && not (has_variable keys v) ≡ true → NotReached p at (set_of p at s) pins es (clock_key v)
    no_clock v y = each_where (HasVariable keys) (λ (e : Entry). Becomes p at e.0 (clock_key v) → ⊥) es
        (λ e h r. (let first = clock_first v in
        let same = only_itself p at (set_of p at s) pins e.0 (clock_key v) 82 first.0 first.1 (λ q. omega (arith, q)) r in
        let yes : has_variable keys v ≡ true = h v (ap variable_of (sym same) ∙ variable_of_key v) in
        let off : has_variable keys v ≡ false = true_parts (is_away p at v) (has_variable keys v) y in
        absurd cc)) had

    not_reached : Each (λ (e : Entry). NotReached p at (set_of p at s) pins es e.0) (appended_entries p at k keys)
    not_reached = each_both (λ (e : Entry). NotReached p at (set_of p at s) pins es e.0) (need_entries p.tables k p.signals (uses_of p at)) (clock_entries p at keys variables)
        (all_needs p.tables (NotReached p at (set_of p at s) pins es) p.signals (uses_of p at) k no_pin_key no_signal room)
        (all_clocks p at keys (NotReached p at (set_of p at s) pins es) variables no_clock)

    -- no key stands twice
    pub all_apart : (prefix : List Entry) → AreApart es → NearAll (flat_map (changed p at pins) es) prefix → AreApart (prefix ++ appended_entries p at k keys)
    all_apart prefix apart near = apart_append prefix (appended_entries p at k keys)
        (apart_near (flat_map (changed p at pins) es) prefix near (changed_apart p at (set_of p at s) pins es apart)) appended_apart
        (each_where (λ (e : Entry). NotReached p at (set_of p at s) pins es e.0) (λ (e : Entry). FarFrom e.0 prefix) (appended_entries p at k keys)
        (λ e h. far_near e.0 (flat_map (changed p at pins) es) prefix near (far_changed p at (set_of p at s) pins es e.0 h)) not_reached)

-- ---- the whole text

empty_reads : Reads []
unfolding line_of entry_of
empty_reads = λ n. refl

says_parted : (prefix : List TextLine) (tail : List ℕ) → map says_on (prefix ++ unended tail) ≡ map says_on prefix ++ if_any tail
says_parted prefix tail = map-append says_on prefix (unended tail) ∙ ap (λ (x : List (List ℕ)). map says_on prefix ++ x) (last tail)
  where
    last : (xs : List ℕ) → map says_on (unended xs) ≡ if_any xs
    last [] = refl
    last (b ∷ bs) = refl

each_split : (P : List ℕ → Type 0) (xs ys : List (List ℕ)) → Each P (xs ++ ys) → Each P xs × Each P ys
each_split P [] ys h = (tt, h)
each_split P (x ∷ xs) ys h = let r = each_split P xs ys h.1 in ((h.0, r.0), r.1)

reads_tail : (tail : List ℕ) → Each Reads (if_any tail) → Reads tail
reads_tail [] h = empty_reads
reads_tail (b ∷ bs) h = h.0

entries_both : (ls ms : List (List ℕ)) → entries (ls ++ ms) ≡ entries ls ++ entries ms
entries_both [] ms = refl
entries_both (l ∷ ls) ms = ap (λ (es : List Entry). entry_if (entry_of l) ++ es) (entries_both ls ms) ∙ sym (append_assoc (entry_if (entry_of l)) (entries ls) (entries ms))

-- what a text says that is read
pub record TextSays (text : List ℕ) (found : List Line) : Type 0 where
  pub parts : IsParted (text_lines text)
  pub prefix : Each Reads (map says_on parts.prefix)
  pub tail : Reads parts.tail
  pub is : entries (map says_on (text_lines text)) ≡ entries (map says_on parts.prefix) ++ entry_if (entry_of parts.tail)
  pub each : Each Reads (map says_on (text_lines text))
  pub found_is : found ≡ lines_from 1 (map says_on (text_lines text))
  pub apart : AreApart (entries (map says_on (text_lines text)))

pub text_says : (text : List ℕ) (found : List Line) → ioc_of text ≡ Ok found → TextSays text found
unfolding ioc_of
text_says text found e =
    let parts = text_parted text in
    let said : map says_on (text_lines text) ≡ map says_on parts.prefix ++ if_any parts.tail = ap (map says_on) parts.is ∙ says_parted parts.prefix parts.tail in
    let r = read_all (map says_on (text_lines text)) 1 [] found tt (ap (ioc_after [] 1) (they_say text) ∙ e) in
    let each = each_split Reads (map says_on parts.prefix) (if_any parts.tail) (subst (Each Reads) said r.each) in
    let tail = reads_tail parts.tail each.1 in
    record {
      parts = parts;
      prefix = each.0;
      tail = tail;
      is = ap entries said ∙ entries_both (map says_on parts.prefix) (if_any parts.tail) ∙ ap (λ (x : List Entry). entries (map says_on parts.prefix) ++ x) (tail_says parts.prefix parts.tail parts.ended parts.clean each.0 tail parts.tail tail).1;
      each = r.each;
      found_is = r.is;
      apart = subst AreApart (entries_on 1 (map says_on (text_lines text))) (entries_apart (lines_from 1 (map says_on (text_lines text))) (subst (Pairwise Differ) r.is r.apart));
    }

-- what the text that is written says
pub record OutSays (text : List ℕ) (p : ProblemParts) (at out : List ℕ) : Type 0 where
  pub says : List (List ℕ)
  pub prefix : List Entry
  pub reads : ioc_of out ≡ Ok (lines_from 1 says)
  pub near : NearAll (flat_map (changed p at (pins_written p (text_lines text))) (entries (map says_on (text_lines text)))) prefix
  pub is : entries says ≡ prefix ++ appended_entries p at (next_number (pin_numbers (text_lines text))) (variables_on (text_lines text))
  pub apart : AreApart (prefix ++ appended_entries p at (next_number (pin_numbers (text_lines text))) (variables_on (text_lines text)))
  pub room : next_number (pin_numbers (text_lines text)) + needs_in p.signals ≤ 2 ^ 64

module _ (text : List ℕ) (p : ProblemParts) (at : List ℕ) (s : Suits p at) (few : pins_written p (text_lines text) < 2 ^ 64) (found : List Line) (t : TextSays text found) (out : List ℕ) where
  abbrev k : ℕ
  k = next_number (pin_numbers (text_lines text))

  abbrev keys : List Variable
  keys = variables_on (text_lines text)

  abbrev pins : ℕ
  pins = pins_written p (text_lines text)

  prefix_of : (prefix : List ℕ) → lines_written p at pins 1 (text_lines text) ≡ Ok prefix → IsWritten p at pins t.parts.prefix t.parts.tail prefix
  prefix_of prefix e = written p at pins (set_of p at s) s.range few t.parts.prefix t.parts.tail 1 prefix t.parts.ended t.parts.clean t.prefix t.tail empty_reads
      (ap (lines_written p at pins 1) (sym t.parts.is) ∙ e)

  closed_of : (prefix : List ℕ) → k + needs_in p.signals ≤ 2 ^ 64 → lines_written p at pins 1 (text_lines text) ≡ Ok prefix
      → IsClosed (flat_map (changed p at pins) (entries (map says_on (text_lines text)))) (texts_of (appended_entries p at k keys)) (followed_by prefix (appended p at (text_lines text)))
  unfolding appended
  closed_of prefix room e =
      let w = prefix_of prefix e in
      let added_is = appended_added p at s pins k keys room in
      let c = followed_says w.lines w.rest w.ended w.clean w.reads w.last (texts_of (appended_entries p at k keys)) (are_added (appended_entries p at k keys) (are_entries p at s pins k keys room)) in
      subst (λ (x : List Entry). IsClosed x (texts_of (appended_entries p at k keys)) (followed_by prefix (appended p at (text_lines text)))) (w.is ∙ ap (flat_map (changed p at pins)) (sym t.is))
      (subst (IsClosed (entries (map says_on w.lines) ++ entry_if (entry_of w.rest)) (texts_of (appended_entries p at k keys))) (ap (λ (x : List ℕ). followed_by x (added (texts_of (appended_entries p at k keys)))) (sym w.bytes) ∙ ap (followed_by prefix) (sym added_is)) c)

  says_of : k + needs_in p.signals ≤ 2 ^ 64 → lines_back p at (text_lines text) ≡ Ok out → OutSays text p at out
  unfolding ioc_of
  says_of room e =
      let b = both (lines_written p at (pins_written p (text_lines text)) 1 (text_lines text)) (λ prefix. Ok (followed_by prefix (appended p at (text_lines text)))) out e in
      let c = closed_of b.0 room b.1 in
      let same = same_ok (followed_by b.0 (appended p at (text_lines text))) out b.2 in
      let all = appended_entries p at (next_number (pin_numbers (text_lines text))) (variables_on (text_lines text)) in
      let is : entries c.says ≡ c.prefix ++ all = c.is ∙ ap (λ (x : List Entry). c.prefix ++ x) (entries_of_texts all (are_entries p at s (pins_written p (text_lines text)) k keys room)) in
      let apart = all_apart p at s (pins_written p (text_lines text)) k keys room (entries (map says_on (text_lines text))) (numbers_below (text_lines text)) (variables_had (text_lines text)) c.prefix t.apart c.near in
      let differ = lines_apart (lines_from 1 c.says) (subst AreApart (sym (entries_on 1 c.says ∙ is)) apart) in
      record {
        says = c.says;
        prefix = c.prefix;
        reads = ap (ioc_after [] 1) (ap lines (sym same) ∙ c.lines_are) ∙ all_read c.says 1 [] c.reads differ;
        near = c.near;
        is = is;
        apart = apart;
        room = room;
      }

-- what is written of a text that is read is read
pub out_says : (text : List ℕ) (p : ProblemParts) (at out : List ℕ) (found : List Line) → Suits p at → pins_written p (text_lines text) < 2 ^ 64 → ioc_of text ≡ Ok found → written_back text p at ≡ Ok out → OutSays text p at out
unfolding written_back
out_says text p at out found s few e w = elim (bool_cases (nat_lt (2 ^ 64) (next_number (pin_numbers (text_lines text)) + needs_of p.signals))) [
  | inl y ↦ let f : (let r : Bytes = Err NoNumber in r) ≡ Ok out = rw y at w in absurd cc
  | inr n ↦
      let f : lines_back p at (text_lines text) ≡ Ok out = rw n at w in
      let room : next_number (pin_numbers (text_lines text)) + needs_of p.signals ≤ 2 ^ 64 = grind (arith, nat_tests) in
      says_of text p at s few found (text_says text found e) out (subst (λ (c : ℕ). next_number (pin_numbers (text_lines text)) + c ≤ 2 ^ 64) (sym (needs_counted p.signals)) room) f
]
