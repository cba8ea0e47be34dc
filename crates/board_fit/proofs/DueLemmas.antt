-- What the parts of a board come to is what the board does.
use Rattle.std.proofs.Common.{◌≡◌, ◌∙◌, ℕ, List, None, map, sym, subst, ap}
use Rattle.std.specs.Prelude.{Ok}
use Rattle.answers.specs.Said.{answered}
use Rattle.answers.specs.declared.answer.Answer.{Answer}
use Rattle.answers.specs.declared.answer.Status.TheVariants.{Done}
use Rattle.choice_rank.specs.Least.{IsLeast}
use Rattle.choice_setup.specs.SetUp.{setting_of}
use Rattle.init_gen.specs.Writes.{writes_of}
use Rattle.init_gen.specs.declared.setting.Setting.{Setting}
use Rattle.problem.specs.Meets.{meets}
use Rattle.proof_shift.specs.Raised.{raised_node, raised_proof}
use Rattle.refutation.specs.Forms.{form_of}
use Rattle.refutation.specs.Reading.{proof_of}
use Rattle.refutation.specs.Spelling.{spelling}
use Rattle.res_model.specs.declared.opts.Opts.{Opts}
use Rattle.res_model.specs.declared.project.Project.{Project}
use Rattle.res_model.specs.declared.table.TableParts.{TableParts}
use Rattle.solver.specs.Owed.{AreReadBack, AreSound}
use Rattle.board_fit.specs.Board.{OfFit, refuted, solved}
use Rattle.board_fit.specs.ByParts.{OfClocks, OfParts, clocked, placed, proof_text, unclocked, unplaced}
use Rattle.board_fit.specs.Parts.{IsBoard, alone, clocks_of, joined, pins_of, whole_of}
use Rattle.board_fit.specs.Texts.{parts_text}
use Rattle.board_fit.proofs.BoardLemmas as boards
use Rattle.board_fit.proofs.PartLemmas as parts
use Rattle.board_fit.proofs.TextLemmas as texts
use Rattle.board_fit.proofs.UnplacedLemmas as pins

module _ (t : TableParts) (p : Project) (opts : Opts) (board : IsBoard t p opts) (a : Answer) where
  of_clocks : (at : List ℕ) → IsLeast (pins_of t p opts).shape (meets (pins_of t p opts)) at → OfClocks (pins_of t p opts) at (clocks_of t p opts at) a → OfFit (whole_of t p opts) a
  of_clocks at l (clocked k low sound read e) =
      let split = parts.choice_alone t p opts board at l.is_choice k low.is_choice in
      let ks : List ℕ = split.0 in
      let least : IsLeast (clocks_of t p opts at).shape (meets (clocks_of t p opts at)) (alone p ks) = subst (IsLeast (clocks_of t p opts at).shape (meets (clocks_of t p opts at))) split.2 low in
      let sound_too : AreSound (clocks_of t p opts at) (alone p ks) = subst (AreSound (clocks_of t p opts at)) split.2 sound in
      let read_too : AreReadBack (writes_of (setting_of (clocks_of t p opts at) (alone p ks))) = subst (λ (c : List ℕ). AreReadBack (writes_of (setting_of (clocks_of t p opts at) c))) split.2 read in
      solved (joined ks at) (parts.least_of_parts t p opts board at l.is_choice ks split.1 l least) (texts.sound_joined t p opts board at l.is_choice ks split.1 sound_too)
      (subst (λ (s : Setting). AreReadBack (writes_of s)) (texts.same_setting t p opts board at l.is_choice ks split.1) read_too)
      (e ∙ ap (λ (c : List ℕ). answered Done (parts_text (pins_of t p opts) at (clocks_of t p opts at) c)) split.2 ∙ ap (answered Done) (texts.same_text t p opts board at l.is_choice ks split.1))
  of_clocks at l (unclocked text none r e) =
      let kept = boards.kept_nodes t p opts board at l.is_choice l.is_legal r.nodes none r.canonical in
      refuted text (parts.none_beside t p opts board at l.is_choice l.is_legal none) record { nodes = r.nodes; canonical = kept.0; accepted = kept.1; text_is = r.text_is; read = r.read } e

  pub of_parts : OfParts t p opts a → OfFit (whole_of t p opts) a
  of_parts (placed at l clocks) = of_clocks at l clocks
  of_parts (unplaced proof none is e) =
      let leaf : pins.IsLeaf t p opts board proof.nodes = pins.unplaced_leaf t p opts board none proof.nodes is.canonical in
      let text_is : proof_text (raised_proof proof) ≡ spelling None (map form_of (map raised_node proof.nodes)) = ap (λ b. spelling b (map form_of (map raised_node proof.nodes))) is.bound in
      refuted (proof_text (raised_proof proof)) (parts.none_placed t p opts board none)
      record {
        nodes = map raised_node proof.nodes;
        canonical = leaf.canonical;
        accepted = leaf.accepted;
        text_is = text_is;
        read = subst (λ (x : List ℕ). proof_of x ≡ Ok (None, map form_of (map raised_node proof.nodes))) (sym text_is) leaf.read;
      } e
