-- Where the root directory is still, a command is answered alike whatever a crash drops.
use Rattle.std.proofs.Common.{◌≡◌, ◌≢◌, ℕ, ◌+◌, ◌==◌, Bool, true, false, cond, not, ◌&&◌, ◌||◌, if◌then◌else◌, List, [], ◌∷◌, length, filter, All, refl, sym, ap, subst, ◌∙◌, inl, inr, arith, Option, Some, None}
use Rattle.std.specs.Prelude.{nat_lt, is_some}
use Rattle.std.proofs.lemmas.Bool.{cond-false, ne_eqb, false_from_ne_true}
use Rattle.std.proofs.lemmas.List.Elements.{All-head, All-tail, All-weaker}
use Rattle.tr_types.specs.Paths.{names_of, in_first, parts_of}
use Rattle.tr_types.specs.declared.command.Command.{Command}
use Rattle.tr_types.specs.declared.command.Command.TheVariants.{Create, Stat}
use Rattle.tr_types.specs.declared.command.Reply.{Reply}
use Rattle.tr_types.specs.declared.command.Reply.TheVariants as reply
use Rattle.tr_types.specs.declared.permission.Cred.{Cred}
use Rattle.tr_types.specs.declared.permission.Perm.{Perm}
use Rattle.zo_model.specs.Tree.{Member, Node, Directory, FileOf, node_at}
use Rattle.zo_model.specs.Commands.{IsNameByte, IsName, IsPathOfOne, IsPath, IsCommand}
use Rattle.tr_types.specs.declared.command.Kind.TheVariants.{Dir}
use Rattle.zo_model.specs.Alone.{root_perm}
use Rattle.zo_model.specs.Coffers.{Ready, Coffer, path_text, parent, is_coffer, lies_in, coffers_under}
use Rattle.zo_model.specs.Answers.{Answered, Walk, Reaches, MissesName, MeetsFile, answer, is_too_long, is_denied, walk, arrived, entered, told, make, made, grown, founded, is_success, consulted, state_of, perm_of, same_perm, write_right, read_right}
use Rattle.zo_model.specs.Legal.{Verdict, Unjudged, Fixed, verdict_of, is_lost, IsWay}
use Rattle.std.proofs.lemmas.List.{length-map}
use Rattle.tr_types.specs.declared.action.Action.{Action}
use Rattle.tr_types.specs.declared.action.Action.TheVariants.{Store, Kernel}
use Rattle.tr_types.specs.declared.kernel_call.Kcall.TheVariants.{New}
use Rattle.tr_types.specs.declared.entry.Entry.{Entry}
use Rattle.tr_types.specs.declared.entry.Entry.TheVariants as entry
use Rattle.tr_types.specs.declared.entry.Mark.TheVariants as mark
use Rattle.tr_replay.specs.Seats.{Seat}
use Rattle.tr_replay.specs.Verdicts.{Settled, settled_after, verdict_at}
use Rattle.tr_replay.specs.Legal.{MayCommit}
use Rattle.tr_model.specs.Worlds.{Row, coffers_of, coffer_of_row, root_row}
use Rattle.tr_replay.specs.Worlds.{World, replay_of, coffers_by, coffers_at, trees_of, settled_of, settled_by, barred_by, table_after, seats_after}
use Rattle.tr_passing.proofs.Orders.{put_same}
use Rattle.tr_passing.specs.Units.{Last, Units, Allowed, IsAtRisk, IsOpen, members_in}
use Rattle.tr_passing.specs.Laws.{IsFirm, ReplyLaw, SureCommit, SurePoint}
use Rattle.tr_passing.proofs.Growth.{root_with}
use Rattle.tr_passing.proofs.Differing.{node_kept, count_kept}

-- Paths of one name or none.

parts_plain : (name : List ℕ) → All (λ byte. byte ≢ 47) name → parts_of name ≡ name ∷ []
parts_plain [] plain = refl
parts_plain (byte ∷ name) plain =
    cond-false (byte == 47) _ _ (ne_eqb byte 47 (All-head (λ b. b ≢ 47) byte name plain))
    ∙ ap (in_first byte) (parts_plain name (All-tail (λ b. b ≢ 47) byte name plain))

one_name : (name : List ℕ) → IsName name → names_of (47 ∷ name) ≡ name ∷ []
one_name name is =
    ap (λ (parts : List (List ℕ)). filter (λ part. not (length part == 0)) ([] ∷ parts)) (parts_plain name (All-weaker IsNameByte (λ b. b ≢ 47) (λ b plain. plain.2) name is.bytes))
    ∙ ap (λ (b : Bool). cond (not b) (name ∷ []) []) (ne_eqb (length name) 0 (λ e. let some = is.some in omega (arith, e, some)))

-- a path has one name at most
pub data Few (names : List (List ℕ)) : Type 0 where
  NoName : names ≡ [] → Few names
  OneName : (name : List ℕ) → names ≡ name ∷ [] → Few names

few_one : (path : List ℕ) → IsPathOfOne path → Few (names_of path)
few_one [] is = absurd is
few_one (byte ∷ name) (slash, is) = OneName name (ap (λ (b : ℕ). names_of (b ∷ name)) slash ∙ one_name name is)

few : (path : List ℕ) → IsPath path → Few (names_of path)
few path (inl root) = NoName (ap names_of root)
few path (inr is) = few_one path is

-- Two trees with the same root directory: the same stands there and directly in it, and no other directory.
pub record SameRoot (one two : List Member) : Type 0 where
  pub nodes : (names : List (List ℕ)) → parent names ≡ [] → node_at one names ≡ node_at two names
  pub count : members_in one [] ≡ members_in two []
  pub files : (names : List (List ℕ)) → node_at two names ≡ Some Directory → names ≡ []

-- how a command is answered: its reply, and how many coffers there are after it
pub record Outcome : Type 0 where
  pub reply : Reply
  pub coffers : ℕ

abbrev pub outcome_of : Option Answered → Option Outcome
outcome_of None = None
outcome_of (Some a) = Some (record { reply = a.reply; coffers = length a.coffers })

abbrev cs : List Member → List Coffer
cs tree = root_with (Ready tree) ∷ []

module _ (one two : List Member) (same : SameRoot one two) (cred : Cred) where
  root_node : node_at one [] ≡ node_at two []
  root_node = same.nodes [] refl

  -- a walk of one step at most
  walk_few : (names : List (List ℕ)) → Few names → walk one [] names ≡ walk two [] names
  walk_few names (NoName e) = subst (λ (n : List (List ℕ)). walk one [] n ≡ walk two [] n) (sym e) (ap arrived root_node)
  walk_few names (OneName name e) =
      subst (λ (n : List (List ℕ)). walk one [] n ≡ walk two [] n) (sym e)
      (λ i. entered (root_node i) (arrived (same.nodes (name ∷ []) refl i)))

  parent_few : (names : List (List ℕ)) → Few names → parent names ≡ []
  parent_few names (NoName e) = ap parent e
  parent_few names (OneName name e) = ap parent e

  arrived_is : (o : Option Node) → arrived o ≡ Reaches Directory → o ≡ Some Directory
  arrived_is None e = absurd (let isnt : ⊥ = cc in isnt)
  arrived_is (Some node) e = let is : node ≡ Directory = cc in ap Some is

  entered_is : (o p : Option Node) → entered o (arrived p) ≡ Reaches Directory → p ≡ Some Directory
  entered_is None p e = absurd (let isnt : ⊥ = cc in isnt)
  entered_is (Some Directory) p e = arrived_is p e
  entered_is (Some (FileOf bytes)) p e = absurd (let isnt : ⊥ = cc in isnt)

  no_name : (name : List ℕ) → name ∷ [] ≡ [] → ⊥
  no_name name e = cc

  dir_count : (names : List (List ℕ)) → Few names → walk two [] names ≡ Reaches Directory → members_in one names ≡ members_in two names
  dir_count names (NoName e) reaches = subst (λ (n : List (List ℕ)). members_in one n ≡ members_in two n) (sym e) same.count
  dir_count names (OneName name e) reaches =
      absurd (no_name name (same.files (name ∷ []) (entered_is (node_at two []) (node_at two (name ∷ [])) (sym (ap (walk two []) e) ∙ reaches))))

  under_same : (names : List (List ℕ)) → coffers_under (cs one) names ≡ coffers_under (cs two) names
  under_same names = by ((0 == length names + 1) && lies_in [] names)
    where
      by : (b : Bool) → length (cond b (root_with (Ready one) ∷ []) []) ≡ length (cond b (root_with (Ready two) ∷ []) [])
      by true = refl
      by false = refl

  state_same : (names : List (List ℕ)) → Few names → (w : Walk) → walk two [] names ≡ w → state_of (cs one) (root_with (Ready one)) one names w ≡ state_of (cs two) (root_with (Ready two)) two names w
  state_same names short (Reaches Directory) is =
      (λ i. reply.Info Dir (dir_count names short is i + under_same names i) 0 0 438)
  state_same names short (Reaches (FileOf bytes)) is = refl
  state_same names short MissesName is = refl
  state_same names short MeetsFile is = refl

  abbrev stat_in : List Member → List (List ℕ) → Reply
  stat_in tree names = state_of (cs tree) (root_with (Ready tree)) tree names (walk tree [] names)

  stat_same : (names : List (List ℕ)) → Few names → stat_in one names ≡ stat_in two names
  stat_same names few = ap (λ (w : Walk). state_of (cs one) (root_with (Ready one)) one names w) (walk_few names few) ∙ state_same names few (walk two [] names) refl

  stat_outcome : (path : List ℕ) → Few (names_of path) → (long denied : Bool)
      → outcome_of (cond long (Some (told (cs one) reply.TooLong)) (cond denied (Some (told (cs one) (reply.Denied read_right (path_text [])))) (Some (told (cs one) (stat_in one (names_of path))))))
      ≡ outcome_of (cond long (Some (told (cs two) reply.TooLong)) (cond denied (Some (told (cs two) (reply.Denied read_right (path_text [])))) (Some (told (cs two) (stat_in two (names_of path))))))
  stat_outcome path few true denied = refl
  stat_outcome path few false true = refl
  stat_outcome path few false false = ap (λ (r : Reply). Some (record { reply = r; coffers = 1 })) (stat_same (names_of path) few)

  abbrev made_by : List Member → List (List ℕ) → Perm → Bool → Answered
  made_by tree names perm s = cond s (told (cs tree) reply.Exists) (made (cs tree) (root_with (Ready tree)) tree names perm (FileOf []))

  made_outcome : (names : List (List ℕ)) (perm : Perm) (s p long : Bool)
      → outcome_of (Some (cond s (told (cs one) reply.Exists) (cond p (record { reply = reply.Made; coffers = grown (cs one) (root_with (Ready one)) one names (FileOf []) }) (cond long (told (cs one) reply.TooLong) (record { reply = reply.Made; coffers = founded (cs one) names perm (FileOf []) })))))
      ≡ outcome_of (Some (cond s (told (cs two) reply.Exists) (cond p (record { reply = reply.Made; coffers = grown (cs two) (root_with (Ready two)) two names (FileOf []) }) (cond long (told (cs two) reply.TooLong) (record { reply = reply.Made; coffers = founded (cs two) names perm (FileOf []) })))))
  made_outcome names perm true p long = refl
  made_outcome names perm false true long = refl
  made_outcome names perm false false true = refl
  made_outcome names perm false false false = refl

  make_same : (names : List (List ℕ)) → Few names → (perm : Perm) (w : Walk)
      → outcome_of (Some (make (cs one) (root_with (Ready one)) one names perm (FileOf []) w)) ≡ outcome_of (Some (make (cs two) (root_with (Ready two)) two names perm (FileOf []) w))
  make_same names few perm (Reaches Directory) =
      ap (λ (o : Option Node). outcome_of (Some (made_by one names perm (is_some o || is_coffer (cs one) names)))) (same.nodes names (parent_few names few))
      ∙ made_outcome names perm (is_some (node_at two names) || is_coffer (cs two) names) (same_perm perm root_perm) (nat_lt 440 (length (path_text names)))
  make_same names few perm (Reaches (FileOf bytes)) = refl
  make_same names few perm MissesName = refl
  make_same names few perm MeetsFile = refl

  abbrev make_in : List Member → List (List ℕ) → Perm → Answered
  make_in tree names perm = make (cs tree) (root_with (Ready tree)) tree names perm (FileOf []) (walk tree [] (parent names))

  create_outcome : (path : List ℕ) (mode : ℕ) → Few (names_of path) → (long denied : Bool)
      → outcome_of (cond long (Some (told (cs one) reply.TooLong)) (cond denied (Some (told (cs one) (reply.Denied write_right (path_text [])))) (Some (make_in one (names_of path) (perm_of cred mode)))))
      ≡ outcome_of (cond long (Some (told (cs two) reply.TooLong)) (cond denied (Some (told (cs two) (reply.Denied write_right (path_text [])))) (Some (make_in two (names_of path) (perm_of cred mode)))))
  create_outcome path mode few true denied = refl
  create_outcome path mode few false true = refl
  create_outcome path mode few false false =
      ap (λ (w : Walk). outcome_of (Some (make (cs one) (root_with (Ready one)) one (names_of path) (perm_of cred mode) (FileOf []) w))) (walk_few (parent (names_of path)) (NoName (parent_few (names_of path) few)))
      ∙ make_same (names_of path) few (perm_of cred mode) (walk two [] (parent (names_of path)))

  pub outcome_same : (command : Command) → IsCommand command → outcome_of (answer (cs one) cred command) ≡ outcome_of (answer (cs two) cred command)
  outcome_same (Create path mode) is =
      create_outcome path mode (few_one path is.0) (is_too_long path) (is_denied cred (record { right = write_right; coffer = root_with (Ready two) }))
  outcome_same (Stat path) is = stat_outcome path (few path is) (is_too_long path) (is_denied cred (record { right = read_right; coffer = root_with (Ready two) }))

-- the trees without dropped changes
same_root : (drops : ℕ → Bool) (w : World) (units : Units) → IsFirm w units → Allowed drops w units → SameRoot ((w.replays drops).trees 0) ((replay_of w).trees 0)
same_root drops w units firm allowed = record {
  nodes = λ names e.
      (firm.differs drops allowed).nodes 0 names
      ∙ node_kept drops (units.last 0 (parent names)) names (node_at ((replay_of w).trees 0) names) (λ last is. free last (sym (ap (units.last 0) e) ∙ is));
  count = (firm.differs drops allowed).counts 0 [] ∙ count_kept drops (units.last 0 []) (members_in ((replay_of w).trees 0) []) free;
  files = firm.files 0;
}
  where
    free : (last : Last) → units.last 0 [] ≡ Some last → drops last.commit.position ≡ false
    free last is = false_from_ne_true (drops last.commit.position) (λ drop.
        let judged = firm.ordered.judged 0 [] last is in
        by (allowed last.commit.position (firm.ordered.passed last.commit.position judged) judged drop))
      where
        by : IsAtRisk w units last.commit.position → ⊥
        by risk =
            firm.still last is (subst (IsOpen w.base) (firm.tidy.different risk.last.commit last.commit risk.among (firm.ordered.among 0 [] last is) risk.position_is) risk.is_open)

same_outcome : (drops : ℕ → Bool) (w : World) (units : Units) (cred : Cred) (command : Command) → IsFirm w units → Allowed drops w units → IsCommand command
    → outcome_of (answer (coffers_by drops w) cred command) ≡ outcome_of (answer (coffers_at w) cred command)
same_outcome drops w units cred command firm allowed is =
    subst (λ (rows : List Row). outcome_of (answer (coffers_of rows (w.replays drops).trees) cred command) ≡ outcome_of (answer (coffers_of rows (replay_of w).trees) cred command)) (sym firm.ready)
    (outcome_same ((w.replays drops).trees 0) ((replay_of w).trees 0) (same_root drops w units firm allowed) cred command is)

outcome_verdict : Option Outcome → Verdict
outcome_verdict None = Unjudged
outcome_verdict (Some o) = Fixed o.reply

verdict_is : (o : Option Answered) → verdict_of o ≡ outcome_verdict (outcome_of o)
unfolding outcome_verdict
verdict_is None = refl
verdict_is (Some a) = refl

pub reply_same : ReplyLaw
reply_same drops w units cred command firm allowed is =
    verdict_is (answer (coffers_by drops w) cred command) ∙ ap outcome_verdict (same_outcome drops w units cred command firm allowed is) ∙ sym (verdict_is (answer (coffers_at w) cred command))

-- a change that is right with all of them is right without

some_outcome : (o : Option Answered) (x : Outcome) → outcome_of o ≡ Some x → (a : Answered) × (o ≡ Some a) × (a.reply ≡ x.reply) × (length a.coffers ≡ x.coffers)
some_outcome None x e = absurd (let isnt : ⊥ = cc in isnt)
some_outcome (Some a) x e =
    let is : record { reply = a.reply; coffers = length a.coffers } ≡ x = cc in
    (a, refl, ap (λ (y : Outcome). y.reply) is, ap (λ (y : Outcome). y.coffers) is)

way_by : (coffers others : List Coffer) (command : Command) (a b : Answered) (action : Action) → length a.coffers ≡ length b.coffers → length coffers ≡ length others → IsWay others command b action → IsWay coffers command a action
way_by coffers others command a b (Store addr word) same long way = same ∙ way ∙ sym long
way_by coffers others command a b (Kernel (New parent' path kind mode link guard)) same long way = (same ∙ way.0 ∙ ap (λ (n : ℕ). n + 1) (sym long), way.1)
way_by coffers others command a b (Kernel call) same long way = absurd way
way_by coffers others command a b action same long way = absurd way

pub commit_same : SureCommit
commit_same drops w units seat action firm allowed is may =
    by (some_outcome (answer (coffers_by drops w) seat.cred seat.command) (record { reply = may.answered.reply; coffers = length may.answered.coffers })
    (same_outcome drops w units seat.cred seat.command firm allowed is ∙ ap outcome_of may.changes.0))
  where
    long : length (coffers_by drops w) ≡ length (coffers_at w)
    long = length-map w.base.table (coffer_of_row (w.replays drops).trees) ∙ sym (length-map w.base.table (coffer_of_row (replay_of w).trees))

    by : (a : Answered) × (answer (coffers_by drops w) seat.cred seat.command ≡ Some a) × (a.reply ≡ may.answered.reply) × (length a.coffers ≡ length may.answered.coffers) → MayCommit (coffers_by drops w) seat action
    by (a, at, reply_is, size) = record {
      first = may.first;
      given = may.given;
      answered = a;
      changes = (at, ap is_success reply_is ∙ may.changes.1);
      way = way_by (coffers_by drops w) (coffers_at w) seat.command a may.answered action size long may.way;
    }

ready_lost : (trees : ℕ → List Member) (command : Command) → is_lost (consulted (coffers_of (root_row ∷ []) trees) command) ≡ false
ready_lost trees (Create path mode) = refl
ready_lost trees (Stat path) = refl

pub point_same : SurePoint
point_same drops w units thread now action given seat firm allowed is runs =
    (λ i. (barred_by (coffers_of (table_after w.base e) after) (seats_after w.base e thread) (settled_there i)).pointed)
    ∙ by (seats_after w.base e thread)
    ∙ ap (λ (rows : List Row). verdict_at (coffers_of rows (w.replays drops).trees) seat.cred seat.command) firm.ready
    ∙ ap (λ (b : Bool). if b then Unjudged else verdict_of (answer (coffers_of (root_row ∷ []) (w.replays drops).trees) seat.cred seat.command)) (ready_lost (w.replays drops).trees seat.command)
    ∙ ap (λ (rows : List Row). verdict_of (answer (coffers_of rows (w.replays drops).trees) seat.cred seat.command)) (sym firm.ready)
    ∙ reply_same drops w units seat.cred seat.command firm allowed is
  where
    e : Entry
    e = entry.Act thread now mark.Point action given

    after : ℕ → List Member
    after = trees_of (drops w.base.count) w.base (w.replays drops) (entry.Act thread now mark.Point action given)

    s : Settled
    s = (w.replays drops).settled thread

    settled_there : settled_of w.base (w.replays drops) (entry.Act thread now mark.Point action given) thread ≡ settled_after false (coffers_by drops w) seat.cred seat.command mark.Point given ((w.replays drops).settled thread)
    settled_there =
        put_same (w.replays drops).settled thread thread (settled_by w.base (w.replays drops) (entry.Act thread now mark.Point action given) mark.Point given (w.base.seats thread) ((w.replays drops).settled thread)) refl
        ∙ ap (λ (o : Option Seat). settled_by w.base (w.replays drops) (entry.Act thread now mark.Point action given) mark.Point given o ((w.replays drops).settled thread)) runs

    by : (o : Option Seat) → (barred_by (coffers_of (table_after w.base (entry.Act thread now mark.Point action given)) (trees_of (drops w.base.count) w.base (w.replays drops) (entry.Act thread now mark.Point action given))) o (settled_after false (coffers_by drops w) seat.cred seat.command mark.Point given ((w.replays drops).settled thread))).pointed
        ≡ verdict_at (coffers_by drops w) seat.cred seat.command
    by None = refl
    by (Some other) = refl
