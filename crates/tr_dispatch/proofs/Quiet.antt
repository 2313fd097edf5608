-- What a step leaves that changes no word and is no commit: what users see, what the words denote, and that all is at rest.
use Rattle.std.proofs.Common.{◌≡◌, ℕ, Bool, false, List, ap, sym, subst}
use Rattle.pm_words.specs.Word.{Word}
use Rattle.bus_model.specs.Machine.{acted}
use Rattle.kern_model.specs.KernelView.{value, pages_of}
use Rattle.tr_types.specs.declared.action.Action.{Action}
use Rattle.tr_types.specs.declared.action.Answer.{Answer}
use Rattle.tr_types.specs.declared.entry.Entry.TheVariants as entry
use Rattle.tr_types.specs.declared.entry.Mark.{Mark}
use Rattle.zo_model.specs.Alone.{IsAlone}
use Rattle.zo_model.specs.CofferWords.{CofferAt, Rests}
use Rattle.zo_model.specs.Seats.{is_commit}
use Rattle.zo_model.specs.Tree.{Member}
use Rattle.tr_model.specs.RootCoffer.{root_coffer}
use Rattle.tr_model.specs.Worlds.{World, Row, root_row, coffer_at, coffers_at, coffers_of, moved_trees, stepped, IsTabled, HasWords, IsDenoted}
use Rattle.tr_dispatch.specs.Rooted.{IsAtRest}

-- the root coffer by the words and the table
abbrev coffer_by : List Row → List Word → CofferAt
coffer_by table words = coffer_at words table root_row (root_coffer (pages_of words))

module _ (w : World) (thread now : ℕ) (mark : Mark) (action : Action) (given : Answer) (quiet : is_commit mark given ≡ false) (words : acted thread now action given w.base.machine.bus ≡ w.base.machine.bus.words) where
  abbrev after : World
  after = stepped w (entry.Act thread now mark action given)

  pub trees_same : after.trees ≡ w.trees
  trees_same = ap (λ (b : Bool). moved_trees b w.base.table w.trees (w.base.seats thread)) quiet

  pub coffers_same : coffers_at after ≡ coffers_at w
  coffers_same = ap (coffers_of w.base.table) trees_same

  has_still : (row : Row) → HasWords w.base.machine.bus.words w.base.table row (w.trees row.birth) → HasWords after.base.machine.bus.words w.base.table row (after.trees row.birth)
  has_still row has =
      subst (λ (trees : ℕ → List Member). HasWords after.base.machine.bus.words w.base.table row (trees row.birth)) (sym trees_same)
      (subst (λ (ws : List Word). HasWords ws w.base.table row (w.trees row.birth)) (sym words) has)

  pub still_denoted : IsDenoted w → IsDenoted after
  still_denoted denoted = record {
    tabled = subst (λ (ws : List Word). IsTabled ws w.base.table) (sym words) denoted.tabled;
    ready = λ row among is. has_still row (denoted.ready row among is);
  }

  pub still_at_rest : IsAtRest w → IsAtRest after
  still_at_rest rest = record {
    alone = subst (λ (trees : ℕ → List Member). IsAlone (coffers_of w.base.table trees) (coffer_by w.base.table after.base.machine.bus.words) (trees 0)) (sym trees_same)
        (subst (λ (ws : List Word). IsAlone (coffers_at w) (coffer_by w.base.table ws) (w.trees 0)) (sym words) rest.alone);
    rests = subst (λ (trees : ℕ → List Member). Rests (value after.base.machine.bus.words) (coffer_by w.base.table after.base.machine.bus.words) (trees 0)) (sym trees_same)
        (subst (λ (ws : List Word). Rests (value ws) (coffer_by w.base.table ws) (w.trees 0)) (sym words) rest.rests);
  }
