-- Inputs that are read one after the other.
use Rattle.std.proofs.Common.{◌≡◌, ◌∙◌, ℕ, zero, suc, ◌+◌, ◌<◌, ◌≤◌, List, [], ◌∷◌, ◌++◌, length, get_or, take, drop, sym, ap, subst, arith}
use Rattle.std.proofs.Math.Seq.{take-suc}
use Rattle.answers.specs.declared.answer.Answer.{Answer}
use Rattle.call_io.specs.Gathered.{AllRead, IsRead, Unread, failed, long}
use Rattle.call_io.specs.Inputs.{Files, Reads}
use Rattle.res_io.specs.Bytes.{IsLonger, file_of}
use Rattle.res_io.specs.Causes.{NoneFell, Rose}

-- one more
pub all_more : (files : Files) (names : List (List ℕ)) (read : List (List ℕ)) (name bytes : List ℕ) → AllRead files names read → IsRead files name bytes → AllRead files (names ++ name ∷ []) (read ++ bytes ∷ [])
all_more files [] [] name bytes h one = (one, tt)
all_more files [] (b ∷ bs) name bytes h one = absurd h
all_more files (n ∷ ns) [] name bytes h one = absurd h
all_more files (n ∷ ns) (b ∷ bs) name bytes h one = (h.0, all_more files ns bs name bytes h.1 one)

-- a count that rose later rose from the start
pub rose_from : (before mid after : ℕ) → before ≤ mid → Rose mid after → Rose before after
rose_from before mid after l h = grind (arith, l, h)

pub unread_from : (before mid after : Reads) (name : List ℕ) (a : Answer) → mid.files ≡ before.files → NoneFell before.faults mid.faults → Unread mid after name a → Unread before after name a
unread_from before mid after name a same later (failed rose within says) = failed (rose_from (before.faults name) (mid.faults name) (after.faults name) (later name) rose) within says
unread_from before mid after name a same later (long longer over says) = long (subst (λ (f : Files). IsLonger (file_of f name)) same longer) over says

next : (k : ℕ) → suc k ≡ k + 1
next k = omega arith

cut_next : (xs : List (List ℕ)) (k : ℕ) (x : List ℕ) → k < length xs → x ≡ get_or xs k x → xs ≡ take k xs ++ x ∷ drop (suc k) xs
cut_next [] k x l is = absurd (omega (arith, l))
cut_next (y ∷ ys) zero x l is = ap (λ (z : List ℕ). z ∷ ys) (sym is)
cut_next (y ∷ ys) (suc k) x l is = ap (λ (zs : List (List ℕ)). y ∷ zs) (cut_next ys k x (omega (arith, l)) is)

-- a list around the element at a place
pub cut_at : (xs : List (List ℕ)) (k : ℕ) (x : List ℕ) → k < length xs → x ≡ get_or xs k x → xs ≡ take k xs ++ x ∷ drop (k + 1) xs
cut_at xs k x l is = subst (λ (n : ℕ). xs ≡ take k xs ++ x ∷ drop n xs) (next k) (cut_next xs k x l is)

-- one more was read
pub read_more : (files : Files) (names : List (List ℕ)) (k : ℕ) (name bytes : List ℕ) (read after : List (List ℕ)) → k < length names → name ≡ get_or names k name
    → AllRead files (take k names) read → IsRead files name bytes → after ≡ read ++ bytes ∷ [] → AllRead files (take (k + 1) names) after
read_more files names k name bytes read after l is h one now =
    let on : take (suc k) names ≡ take k names ++ name ∷ [] = take-suc names k name l ∙ ap (λ (n : List ℕ). take k names ++ n ∷ []) (sym is) in
    let more : AllRead files (take k names ++ name ∷ []) (read ++ bytes ∷ []) = all_more files (take k names) read name bytes h one in
    let now_more : AllRead files (take k names ++ name ∷ []) after = subst (λ (bs : List (List ℕ)). AllRead files (take k names ++ name ∷ []) bs) (sym now) more in
    subst (λ (n : ℕ). AllRead files (take n names) after) (next k) (subst (λ (ns : List (List ℕ)). AllRead files ns after) (sym on) now_more)
