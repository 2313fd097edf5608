-- What a call gives with a load, and with its reply.
use Rattle.std.proofs.Common.{◌≡◌, ◌≢◌, ℕ, List, [], Bool, true, false, Option, Some, None, refl, sym, ap, subst, ◌∙◌}
use Rattle.std.proofs.lemmas.Bool.{false≢true}
use Rattle.tr_types.specs.declared.action.Action.TheVariants.{Load}
use Rattle.tr_types.specs.declared.action.Answer.{Answer}
use Rattle.tr_types.specs.declared.action.Answer.TheVariants.{Word as WordIs}
use Rattle.tr_types.specs.declared.command.Command.{Command}
use Rattle.tr_types.specs.declared.command.Command.TheVariants.{Create, Stat}
use Rattle.tr_types.specs.declared.command.Reply.{Reply}
use Rattle.tr_types.specs.declared.command.Reply.TheVariants.{Denied}
use Rattle.tr_types.specs.declared.entry.Mark.TheVariants.{Plain, Commit}
use Rattle.tr_types.specs.declared.kernel_call.Mapped.{Mapped}
use Rattle.tr_types.specs.declared.permission.Cred.{Cred}
use Rattle.tr_types.specs.declared.permission.Right.{Right}
use Rattle.zo_model.specs.Alone.{root_coffer, root_cred}
use Rattle.zo_model.specs.Answers.{Answered, answer, consulted, told}
use Rattle.zo_model.specs.Coffers.{Coffer, paths_of, names_below}
use Rattle.zo_model.specs.Legal.{Verdict, NoPoint, IsDeniedRight, HasCause, MayReply, MayTell}
use Rattle.zo_model.specs.Seats.{Told, NotAsked, seat_after}
use Rattle.zo_model.specs.Steps.{Scene, Consults, IsCofferWord, Leaves, IsDenoted, IsAtRest, Goes, ActGives, OverGives, pool_of}
use Rattle.zo_model.specs.Tree.{Member}
use Rattle.zo_ops.specs.declared.op.Stage.{Stage}
use Rattle.zo_ops.specs.Knows.{Stands, Ground, IsCallOf, IsUnasked, StageKnows}
use Rattle.zo_ops.proofs.AnswerLaws.{alone}

-- every command consults the root coffer
consulted_alone : (tree : List Member) (command : Command) → consulted (alone tree) command ≡ Some (root_coffer tree)
consulted_alone tree (Create path mode) = refl
consulted_alone tree (Stat path) = refl

pub consults_alone : (tree : List Member) (s : Scene) → s.coffers ≡ alone tree → s.coffer.path ≡ [] → s.coffer.below ≡ [] → Consults s (root_coffer tree) tree
consults_alone tree s coffers path below = record {
  consulted_is = ap (λ (cs : List Coffer). consulted cs s.seat.command) coffers ∙ consulted_alone tree s.seat.command;
  path_is = sym path;
  content_is = refl;
  below_is = below ∙ ap (λ (cs : List Coffer). names_below (paths_of cs) []) (sym coffers);
}

consults : (s : Scene) (k : Stands s) → Consults s (root_coffer k.tree) k.tree
consults s k = consults_alone k.tree s k.alone.coffers_are k.alone.path k.alone.below

pub at_rest : (s : Scene) → Stands s → IsAtRest s
at_rest s k = (root_coffer k.tree, k.tree, consults s k, k.rests)

pub denoted : (s : Scene) → Stands s → IsDenoted s
denoted s k = (root_coffer k.tree, k.tree, consults s k, k.rests.denotes)

-- the scene after a load
abbrev pub loaded : ℕ → Scene → Scene
loaded addr s = record {
  at = s.at;
  id = s.id;
  coffer = s.coffer;
  coffers = s.coffers;
  seat = seat_after (pool_of s.coffer) Plain (Load addr) (WordIs (s.at addr)) s.seat;
  verdict = s.verdict;
}

loaded_denoted : (addr : ℕ) (s : Scene) → IsDenoted s → IsDenoted (loaded addr s)
loaded_denoted addr s (mine, tree, c, d) = (mine, tree, record { consulted_is = c.consulted_is; path_is = c.path_is; content_is = c.content_is; below_is = c.below_is }, d)

is_loaded : (addr : ℕ) (s after : Scene) → Leaves Plain (Load addr) (WordIs (s.at addr)) s after → after ≡ loaded addr s
is_loaded addr s after l = λ i. record {
  at = l.words.0 i;
  id = l.id i;
  coffer = l.words.1 i;
  coffers = l.coffers i;
  seat = l.seat i;
  verdict = l.verdict i;
}

-- a load of a word of the coffer, after which this is known
pub load_gives : (mapped : Mapped) (command : Command) (later : Stage) (addr : ℕ) (s : Scene) → IsCofferWord s.coffer addr → IsDenoted s
    → StageKnows mapped command later (WordIs (s.at addr)) (loaded addr s) → ActGives (StageKnows mapped command later) Plain (Load addr) s
load_gives mapped command later addr s word denotes known = record {
  reachable = word;
  marked = tt;
  goes = λ given after is leaves. subst (λ (g : Answer). Goes (StageKnows mapped command later) Plain (Load addr) g s after) (sym is) (goes_to after (subst (λ (g : Answer). Leaves Plain (Load addr) g s after) is leaves));
}
  where
    goes_to : (after : Scene) → Leaves Plain (Load addr) (WordIs (s.at addr)) s after → Goes (StageKnows mapped command later) Plain (Load addr) (WordIs (s.at addr)) s after
    goes_to after leaves = subst (λ (t : Scene). Goes (StageKnows mapped command later) Plain (Load addr) (WordIs (s.at addr)) s t) (sym (is_loaded addr s after leaves)) (record {
      legal = λ e. absurd (false≢true e);
      done = λ e. absurd (plain_only e);
      denoted = loaded_denoted addr s denotes;
      knows = known;
    })
      where
        plain_only : Plain ≡ Commit → ⊥
        plain_only e = cc

-- the ground stays with a load
abbrev pub ground_loaded : (mapped : Mapped) (command : Command) (addr : ℕ) (s : Scene) → Ground mapped command s → Ground mapped command (loaded addr s)
ground_loaded mapped command addr s k = record {
  stands = record { tree = k.stands.tree; alone = k.stands.alone; rests = k.stands.rests };
  call = record { command_is = k.call.command_is; can_be = k.call.can_be; cred = k.call.cred };
  coffer = record { id = k.coffer.id; control = k.coffer.control; root = k.coffer.root; few = k.coffer.few; control_among = k.coffer.control_among; each = k.coffer.each };
  uncommitted = k.uncommitted;
}

-- what a call is answered, by the root coffer alone
pub answered_alone : (tree : List Member) (command : Command) (s : Scene) (reply : Reply) → s.coffers ≡ alone tree → IsCallOf command s → answer (alone tree) root_cred command ≡ Some (told (alone tree) reply)
    → answer s.coffers s.seat.cred s.seat.command ≡ Some (told s.coffers reply)
answered_alone tree command s reply coffers call is =
    ap (λ (cs : List Coffer). answer cs s.seat.cred s.seat.command) coffers
    ∙ ap (λ (c : Cred). answer (alone tree) c s.seat.command) call.cred
    ∙ ap (λ (c : Command). answer (alone tree) root_cred c) call.command_is
    ∙ is ∙ ap (λ (cs : List Coffer). Some (told cs reply)) (sym coffers)

-- a reply that is not Denied and needs no cause
abbrev pub is_denial : Reply → Bool
is_denial (Denied right path) = true
is_denial reply = false

abbrev pub denies : Option Answered → Bool
denies None = false
denies (Some a) = is_denial a.reply

pub record IsPlain (s : Scene) (reply : Reply) : Type 0 where
  pub other : is_denial reply ≡ false
  pub denied : ((right : Right) (path : List ℕ) → answer s.coffers s.seat.cred s.seat.command ≢ Some (told s.coffers (Denied right path))) → IsDeniedRight s.coffers s.seat reply
  pub cause : HasCause s.seat NotAsked reply

-- a reply of a call that has changed nothing, and has asked for no pages
pub told_gives : (mapped : Mapped) (command : Command) (s : Scene) (reply : Reply) (k : Ground mapped command s) → IsUnasked s → IsPlain s reply
    → answer (alone k.stands.tree) root_cred command ≡ Some (told (alone k.stands.tree) reply) → OverGives reply s × Stands s
told_gives mapped command s reply k (unasked, unsettled) plain is = (record { legal = legal; rests = at_rest s k.stands }, k.stands)
  where
    answered : answer s.coffers s.seat.cred s.seat.command ≡ Some (told s.coffers reply)
    answered = answered_alone k.stands.tree command s reply k.stands.alone.coffers_are k.call is

    legal : MayReply s.coffers s.seat s.verdict reply
    legal = record {
      denied = plain.denied (λ right path e. absurd (false≢true (sym plain.other ∙ ap denies (sym answered ∙ e))));
      cause = subst (λ (t : Told). HasCause s.seat t reply) (sym unasked) plain.cause;
      settled = subst (λ (v : Verdict). MayTell s.coffers s.seat v s.seat.told reply) (sym unsettled)
          (subst (λ (t : Told). MayTell s.coffers s.seat NoPoint t reply) (sym unasked) (λ _. answered));
    }
