-- The stores that make a file in drawn pages: each leaves the tree, up to the commit, and after it the file stands.
use Rattle.std.proofs.Common.{◌≡◌, ◌≢◌, ◌⊎◌, inl, inr, ℕ, ◌+◌, ◌*◌, ◌/◌, ◌<◌, ◌≤◌, ◌==◌, List, [], ◌∷◌, ◌++◌, length, map, take, drop, slice_index, Contains, Bool, true, false, cond, Option, Some, None, nat_eq, refl, sym, ap, subst, ◌∙◌, arith, eq-eqb}
use Rattle.std.specs.List.{IsDistinct, list_any}
use Rattle.std.proofs.lemmas.Bool.{cases_eq, eqb-false, cond-false}
use Rattle.std.proofs.lemmas.List.{append-nil, append_assoc}
use Rattle.zo_layout.specs.Layout.{page_at, word_of, bucket_head, bucket_of, first_free_entry, next_entry}
use Rattle.tr_types.specs.declared.action.Answer.TheVariants.{Done}
use Rattle.tr_types.specs.declared.command.Command.{Command}
use Rattle.tr_types.specs.declared.command.Command.TheVariants.{Create, Stat}
use Rattle.tr_types.specs.declared.command.Reply.TheVariants.{Exists}
use Rattle.tr_types.specs.declared.kernel_call.Mapped.{Mapped}
use Rattle.zo_model.specs.Alone.{root_coffer}
use Rattle.zo_model.specs.Answers.{answer, consulted, told}
use Rattle.zo_model.specs.CofferWords.{Denotes, Rests, IsDir, IsInLimits}
use Rattle.zo_model.specs.Coffers.{Coffer}
use Rattle.zo_model.specs.Commands.{IsCommand, IsName, IsPathOfOne}
use Rattle.zo_model.specs.Directory.{IsPlace}
use Rattle.zo_model.specs.Legal.{IsRefused, Unjudged, is_lost, moved_to, verdict_of}
use Rattle.zo_model.specs.Seats.{Given}
use Rattle.zo_model.specs.Steps.{Scene, IsCofferWord, MayStore, put}
use Rattle.zo_model.specs.Tree.{Member, Node, Directory, FileOf, node_at, same_names}
use Rattle.zo_plan.specs.declared.place.Place.{Place}
use Rattle.zo_plan.specs.declared.plan.Operand.{Operand}
use Rattle.zo_plan.specs.declared.plan.Operand.TheVariants.{Known, Drawn}
use Rattle.zo_plan.specs.declared.plan.Plan.{Plan}
use Rattle.zo_plan.specs.declared.plan.Put.{Put}
use Rattle.zo_plan.specs.Operands.{real, pair_of, pairs_of}
use Rattle.zo_plan.specs.StoreRuns.{Due, Running, due, stores_of}
use Rattle.zo_hash_dir.specs.Links.{put as put_of, link_puts, linked_entry}
use Rattle.zo_hash_dir.specs.Scene.{IsPageOf, IsNoneOr}
use Rattle.zo_laws.specs.Linking.{IsPlaceFor, prepares_of}
use Rattle.zo_laws.specs.Making.{CanMake, all_prepares, with_pages, IsMade as IsMadeOf}
use Rattle.zo_laws.specs.Stores.{after_stores}
use Rattle.zo_laws.proofs.FreeLemmas.{free_pairs, free_within}
use Rattle.zo_laws.proofs.FreshLemmas.{fresh_pairs, fresh_within}
use Rattle.zo_laws.proofs.FrameLemmas.{place_aligned}
use Rattle.zo_laws.proofs.LinkLemmas.{free_are, fresh_are}
use Rattle.zo_laws.proofs.MakeLemmas.{makes}
use Rattle.zo_laws.proofs.MemberLemmas.{node_kept, node_past, node_new}
use Rattle.zo_laws.proofs.PairLemmas.{InRange}
use Rattle.zo_laws.proofs.PrepareLemmas.{Touched}
use Rattle.zo_laws.proofs.StoreLemmas.{Within, within-weaker, after-append}
use Rattle.zo_ops.specs.Knows.{Stands, Ground, IsCallOf, Drew, MayPutAll, StageKnows, IsCreate, stored, name_of}
use Rattle.zo_ops.specs.declared.op.Stage.TheVariants as stage
use Rattle.zo_ops.proofs.AnswerLaws.{alone, new_file}
use Rattle.zo_ops.proofs.LookExits.{exists_answer}
use Rattle.zo_ops.proofs.AskExits.{may_store, made_in, changes_in, lacks_none}
use Rattle.zo_ops.proofs.DrawnLaws.{drawn_rests, covers_denotes, covers_rests}
use Rattle.zo_ops.proofs.Members.{contains_here, contains_there}
use Rattle.zo_ops.proofs.SeenLaws.{can_make}
use Rattle.zo_ops.proofs.StepLaws.{denoted, consults_alone, answered_alone}

-- a list up to where it was joined
take_front : (xs ys : List (ℕ × ℕ)) → take (length xs) (xs ++ ys) ≡ xs
take_front [] ys = refl
take_front (x ∷ xs) ys = ap (λ (l : List (ℕ × ℕ)). x ∷ l) (take_front xs ys)

-- one page was drawn, or two different ones
given_among : (b : Bool) (ps : List ℕ) → length ps ≡ cond b 1 0 + 1 → Contains ps (slice_index ps (cond b 1 0)) × Contains ps (slice_index ps 0)
given_among b [] is = absurd (none b is)
  where
    none : (b : Bool) → 0 ≡ cond b 1 0 + 1 → ⊥
    none true e = omega (arith, e)
    none false e = omega (arith, e)
given_among false (p ∷ ps) is = (contains_here p ps, contains_here p ps)
given_among true (p ∷ []) is = absurd (omega (arith, is))
given_among true (p ∷ q ∷ ps) is = (contains_there p (q ∷ ps) q (contains_here q ps), contains_here p (q ∷ ps))

given_apart : (b : Bool) (ps : List ℕ) → b ≡ true → length ps ≡ cond b 1 0 + 1 → IsDistinct nat_eq ps → slice_index ps 0 ≢ slice_index ps (cond b 1 0)
unfolding IsDistinct
given_apart false ps is long once = absurd (not_so is)
  where
    not_so : false ≡ true → ⊥
    not_so e = cc
given_apart true [] is long once = absurd (omega (arith, long))
given_apart true (p ∷ []) is long once = absurd (omega (arith, long))
given_apart true (p ∷ q ∷ ps) is long once = eqb-false p q once.0.0

pub is_name : (command : Command) → IsCreate command → IsCommand command → IsName (name_of command)
is_name (Create path mode) create can = by path can.0
  where
    by : (path : List ℕ) → IsPathOfOne path → IsName (drop 1 path)
    by [] one = absurd one
    by (byte ∷ name) one = one.1
is_name (Stat path) create can = absurd create

module _ (mapped : Mapped) (command : Command) (place : Place) (pages : List ℕ) (s : Scene) (create : IsCreate command) (k : Drew mapped command place pages s) where
  abbrev pub g : Ground mapped command k.base
  g = k.lacks.ground

  abbrev pub tree : List Member
  tree = g.stands.tree

  abbrev pub name : List ℕ
  name = name_of command

  r : Rests s.at k.base.coffer tree
  r = drawn_rests pages k.base s k.drawn g.coffer.control_among tree g.stands.rests

  abbrev dir : ℕ
  dir = r.denotes.page_of []

  dir_is : dir ≡ mapped.root
  dir_is = r.denotes.root_page ∙ g.coffer.root

  dir_among : Contains k.base.coffer.pages dir
  dir_among = (r.denotes.members [] Directory g.stands.alone.root).coffers

  -- the directory's words stay
  same_dir : (i : ℕ) → i < 512 → k.base.at (word_of (page_at mapped.root) i) ≡ s.at (word_of (page_at dir) i)
  same_dir i low =
      let page : dir ≡ word_of (page_at dir) i / 4096 = omega (arith, low) in
      ap (λ p. k.base.at (word_of (page_at p) i)) (sym dir_is) ∙ sym (k.drawn.same (word_of (page_at dir) i) (subst (Contains k.base.coffer.pages) page dir_among))

  free_place : place.free ≢ 0 → IsPlace (IsPageOf k.base.coffer.pages) place.free
  free_place some = by (can_make mapped command k.base g).free
    where
      by : IsNoneOr (IsPlace (IsPageOf k.base.coffer.pages)) (k.base.at (first_free_entry (page_at mapped.root))) → IsPlace (IsPageOf k.base.coffer.pages) place.free
      by (inl none) = absurd (some (k.lacks.missing.words.0 ∙ none))
      by (inr p) = subst (IsPlace (IsPageOf k.base.coffer.pages)) (sym k.lacks.missing.words.0) p

  same_free : place.free ≢ 0 → k.base.at (next_entry place.free) ≡ s.at (next_entry place.free)
  same_free some =
      let p = free_place some in
      let is = p.is in
      let twelve = p.twelve in
      let page : p.page ≡ next_entry place.free / 4096 = omega (arith, is, twelve) in
      sym (k.drawn.same (next_entry place.free) (subst (Contains k.base.coffer.pages) page p.entries.among))

  place_for : IsPlaceFor s.at (page_at dir) name place
  place_for = record {
    bucket = k.lacks.missing.bucket ∙ ap (λ p. bucket_head (page_at p) (bucket_of name)) (sym dir_is);
    head = k.lacks.missing.end.begins ∙ same_dir (256 + bucket_of name) (omega arith);
    first = λ none. (k.lacks.missing.words.2 none).1 ∙ same_dir 4 (omega arith);
    free = k.lacks.missing.words.0 ∙ same_dir 5 (omega arith);
    free_next = λ some. (k.lacks.missing.words.1 some).0 ∙ same_free some;
  }

  -- the file's page, and the one drawn first
  abbrev pub extra : ℕ
  extra = cond (place.free == 0) 1 0

  abbrev pub made : ℕ
  made = slice_index pages extra

  abbrev pub fresh : ℕ
  fresh = slice_index pages 0

  abbrev pub target : Operand
  target = Drawn extra 0

  target_is : real pages target ≡ page_at made
  target_is = none_more (page_at made)
    where
      none_more : (n : ℕ) → n + 0 ≡ n
      none_more n = omega arith

  among : Contains pages made × Contains pages fresh
  among = given_among (place.free == 0) pages k.given.count_is

  can : CanMake s.at k.base.coffer tree r [] name (FileOf []) place target pages made fresh
  can = record {
    dir = g.stands.alone.root;
    missing = lacks_none place mapped command k.base k.lacks;
    no_coffer = ap (λ (b : List (List (List ℕ))). list_any (same_names (name ∷ [])) b) g.stands.alone.below;
    is_name = is_name command create k.call.can_be;
    limits = subst (λ (p : List (List ℕ)). IsInLimits (p ++ name ∷ [])) (sym g.stands.alone.path) (record { few = omega arith; short = (let short = (is_name command create k.call.can_be).short in omega (arith, short)) });
    empty = refl;
    found = place_for;
    each = λ page c. record {
      outside = k.given.apart page c;
      not_control = λ same. k.given.apart page c (subst (Contains k.base.coffer.pages) (sym same) g.coffer.control_among);
      blank = λ i low. k.drawn.zeros page i c low;
    };
    made_drawn = among.0;
    target_is = target_is;
    fresh_drawn = λ none. record { first = refl; among = among.1; other = given_apart (place.free == 0) pages (eq-eqb place.free 0 none) k.given.count_is k.given.once };
  }

  law : IsMadeOf s.at k.base.coffer tree [] name (FileOf []) place target pages made dir
  law = makes s.at k.base.coffer tree r [] name (FileOf []) place target pages made fresh can

  abbrev all : List (ℕ × ℕ)
  all = all_prepares (page_at dir) place name (FileOf []) made target pages

  -- the stores of the plan that makes the file
  abbrev pub kind_put : Put
  kind_put = record { at = target; word = Known 1 }

  abbrev puts : List Put
  puts = kind_put ∷ link_puts (page_at dir) place name target

  all_are : pairs_of pages puts ≡ all
  all_are = λ i. (target_is i, 1) ∷ prepares_of (page_at dir) place name target pages

  -- They go to the coffer.

  own_word : (page i addr : ℕ) → Contains s.coffer.pages page → i < 512 → addr ≡ word_of (page_at page) i → IsCofferWord s.coffer addr
  own_word page i addr c low is = record { aligned = omega (arith, is); coffers = subst (Contains s.coffer.pages) (let e : page ≡ addr / 4096 = omega (arith, is, low) in e) c }

  own_range : (page from to addr : ℕ) → Contains s.coffer.pages page → page_at page ≤ from → to ≤ page_at page + 4096 → InRange from to addr → IsCofferWord s.coffer addr
  own_range page from to addr c low high (aligned, least, most) = record { aligned = aligned; coffers = subst (Contains s.coffer.pages) (let e : page ≡ addr / 4096 = omega (arith, low, high, least, most) in e) c }

  own_dir : Contains s.coffer.pages dir
  own_dir = k.drawn.kept dir dir_among

  own_touched : (page from to : ℕ) → Contains s.coffer.pages page → page_at page ≤ from → to ≤ page_at page + 4096 → (addr : ℕ) → Touched dir from to addr → IsCofferWord s.coffer addr
  own_touched page from to c low high addr (inl first) = own_word dir 4 addr own_dir (omega arith) first
  own_touched page from to c low high addr (inr (inl free)) = own_word dir 5 addr own_dir (omega arith) free
  own_touched page from to c low high addr (inr (inr range)) = own_range page from to addr c low high range

  link_own : Within (IsCofferWord s.coffer) (prepares_of (page_at dir) place name target pages)
  link_own = by (cases_eq place.free 0)
    where
      short : length name ≤ 255
      short = (is_name command create k.call.can_be).short

      by : (place.free ≡ 0) ⊎ (place.free ≢ 0) → Within (IsCofferWord s.coffer) (prepares_of (page_at dir) place name target pages)
      by (inl none) = subst (Within (IsCofferWord s.coffer)) (sym (fresh_are fresh pages refl dir place name target none))
          (within-weaker (Touched dir (page_at fresh) (page_at fresh + 4096)) (IsCofferWord s.coffer) (own_touched fresh (page_at fresh) (page_at fresh + 4096) (k.drawn.given fresh among.1) (omega arith) (omega arith))
          (fresh_pairs dir fresh place.first place.head (real pages target) name) (fresh_within dir fresh place.first place.head (real pages target) name short))
      by (inr some) =
          let p = free_place some in
          let is = p.is in
          let twelve = p.twelve in
          subst (Within (IsCofferWord s.coffer)) (sym (free_are pages dir place name target some))
          (within-weaker (Touched dir place.free (place.free + 320)) (IsCofferWord s.coffer) (own_touched p.page place.free (place.free + 320) (k.drawn.kept p.page p.entries.among) (omega (arith, is)) (omega (arith, is, twelve)))
          (free_pairs dir place.free_next place.free place.head (real pages target) name)
          (free_within dir place.free_next place.free place.head (real pages target) name (place_aligned (IsPageOf k.base.coffer.pages) place.free p) short))

  all_own : Within (IsCofferWord s.coffer) (pairs_of pages puts)
  all_own = (own_word made 0 (real pages target) (k.drawn.given made among.0) (omega arith) (target_is ∙ none_more (page_at made)), link_own)
    where
      none_more : (n : ℕ) → n ≡ n + 8 * 0
      none_more n = omega arith

  -- A scene on the way, once these stores are made.
  record Way (done : List (ℕ × ℕ)) (t : Scene) : Type 0 where
    words : t.at ≡ after_stores s.at done
    coffer : t.coffer ≡ s.coffer
    coffers : t.coffers ≡ alone tree
    call : IsCallOf command t
    uncommitted : t.seat.committed ≡ false
    told : t.seat.told ≡ Given

  stored_more : (done : List (ℕ × ℕ)) (addr word : ℕ) (at : ℕ → ℕ) → at ≡ after_stores s.at done → put at addr word ≡ after_stores s.at (done ++ (addr, word) ∷ [])
  stored_more done addr word at is = ap (λ (a : ℕ → ℕ). put a addr word) is ∙ sym (after-append s.at done ((addr, word) ∷ []))

  way_on : (done : List (ℕ × ℕ)) (t : Scene) (p : Put) → Way done t → Way (done ++ pair_of pages p ∷ []) (stored (due pages false false p) t)
  way_on done t p w = record {
    words = stored_more done (real pages p.at) (real pages p.word) t.at w.words;
    coffer = w.coffer;
    coffers = w.coffers;
    call = record { command_is = w.call.command_is; can_be = w.call.can_be; cred = w.call.cred };
    uncommitted = w.uncommitted;
    told = w.told;
  }

  abbrev pub commits : Due
  commits = due pages true false (put_of (Known place.bucket) (linked_entry place))

  abbrev more : List Member
  more = tree ++ new_file name ∷ []

  -- the tree with the file has no further directory
  no_more_dirs : (names : List (List ℕ)) (found : Option Node) → node_at tree names ≡ found → IsDir more names → names ≡ []
  no_more_dirs names (Some node) is dir_of =
      let same : Some node ≡ Some Directory = sym (node_kept tree (new_file name ∷ []) names node is) ∙ dir_of in
      g.stands.alone.dirs names (is ∙ same)
  no_more_dirs names None is dir_of = absurd (by (same_names (name ∷ []) names) (sym (node_past tree (new_file name ∷ []) names is) ∙ dir_of))
    where
      by : (b : Bool) → cond b (Some (FileOf [])) None ≡ Some Directory → ⊥
      by true e = cc
      by false e = cc

  made_stands : (t : Scene) → Way all t → Stands (stored commits t)
  made_stands t w =
      let changes = changes_in tree command t w.coffers w.call create g.stands.alone.root (lacks_none place mapped command k.base k.lacks) in
      record {
        tree = more;
        alone = record {
          coffers_are = ap (λ a. moved_to a t.coffers) changes.0;
          path = ap (λ c. c.path) w.coffer ∙ k.drawn.path ∙ g.stands.alone.path;
          below = ap (λ c. c.below) w.coffer ∙ k.drawn.below ∙ g.stands.alone.below;
          root = node_kept tree (new_file name ∷ []) [] Directory g.stands.alone.root;
          dirs = λ names is. no_more_dirs names (node_at tree names) refl is;
        };
        rests = subst (λ c. Rests (put t.at commits.addr commits.word) c more) (sym w.coffer)
            (subst (λ (a : ℕ → ℕ). Rests a s.coffer more) (sym (stored_more all commits.addr commits.word t.at w.words))
            (covers_rests pages k.base s k.drawn g.coffer.control_among _ more law.after));
      }

  -- the file stands then
  stays : (t : Scene) (w : Way all t) → answer (stored commits t).coffers (stored commits t).seat.cred (stored commits t).seat.command ≡ Some (told (stored commits t).coffers Exists)
  stays t w =
      let changes = changes_in tree command t w.coffers w.call create g.stands.alone.root (lacks_none place mapped command k.base k.lacks) in
      answered_alone more command (stored commits t) Exists (ap (λ a. moved_to a t.coffers) changes.0) (record { command_is = w.call.command_is; can_be = w.call.can_be; cred = w.call.cred })
      (exists_answer command more (FileOf []) create w.call.can_be (node_kept tree (new_file name ∷ []) [] Directory g.stands.alone.root) (node_new tree (name ∷ []) (FileOf []) (lacks_none place mapped command k.base k.lacks)))

  commit_last : (t : Scene) → Way all t → MayPutAll (commits ∷ []) t
  commit_last t w =
      let changes = changes_in tree command t w.coffers w.call create g.stands.alone.root (lacks_none place mapped command k.base k.lacks) in (
        record {
          create = subst MayStore (sym w.call.command_is) (may_store command create);
          reached = subst (λ c. IsCofferWord c commits.addr) (sym w.coffer) (own_word dir (256 + bucket_of name) commits.addr own_dir (omega arith) place_for.bucket);
          legal = λ _. record { first = w.uncommitted; given = λ refused. subst IsRefused w.told refused; answered = made_in tree command; changes = changes; way = sym (ap (λ (cs : List Coffer). length cs) w.coffers) };
          denoted = denoted (stored commits t) (made_stands t w);
        },
        record {
          stands = made_stands t w;
          committed = refl;
          told = w.told;
          stays = stays t w;
          verdict = cond-false (is_lost (consulted t.coffers t.seat.command)) Unjudged (verdict_of (answer t.coffers t.seat.cred t.seat.command))
              (ap is_lost (consults_alone tree t w.coffers (ap (λ c. c.path) w.coffer ∙ k.drawn.path ∙ g.stands.alone.path) (ap (λ c. c.below) w.coffer ∙ k.drawn.below ∙ g.stands.alone.below)).consulted_is)
              ∙ ap verdict_of changes.0;
        },
      )

  still_denoted : (done : List (ℕ × ℕ)) (left : List Put) (t : Scene) → Way done t → done ++ pairs_of pages left ≡ all → Denotes t.at t.coffer tree
  still_denoted done left t w whole =
      subst (λ c. Denotes t.at c tree) (sym w.coffer)
      (subst (λ (a : ℕ → ℕ). Denotes a s.coffer tree) (sym w.words)
      (covers_denotes pages k.base s k.drawn g.coffer.control_among (after_stores s.at done) tree
      (subst (λ (d : List (ℕ × ℕ)). Denotes (after_stores s.at d) (with_pages k.base.coffer pages) tree) (ap (take (length done)) (sym whole) ∙ take_front done (pairs_of pages left)) (law.before (length done)))))

  walk : (left : List Put) (done : List (ℕ × ℕ)) (t : Scene) → Way done t → done ++ pairs_of pages left ≡ all → Within (IsCofferWord s.coffer) (pairs_of pages left) → MayPutAll (map (due pages false false) left ++ commits ∷ []) t
  walk [] done t w whole own = commit_last t (subst (λ (d : List (ℕ × ℕ)). Way d t) (sym (append-nil done) ∙ whole) w)
  walk (p ∷ left) done t w whole own =
      let on = way_on done t p w in
      let rest : (done ++ pair_of pages p ∷ []) ++ pairs_of pages left ≡ all = append_assoc done (pair_of pages p ∷ []) (pairs_of pages left) ∙ whole in
      let after = stored (due pages false false p) t in (
        record {
          create = subst MayStore (sym w.call.command_is) (may_store command create);
          reached = subst (λ c. IsCofferWord c (real pages p.at)) (sym w.coffer) own.0;
          legal = λ e. absurd (not_so e);
          denoted = (root_coffer tree, tree, consults_alone tree after on.coffers (ap (λ c. c.path) on.coffer ∙ k.drawn.path ∙ g.stands.alone.path) (ap (λ c. c.below) on.coffer ∙ k.drawn.below ∙ g.stands.alone.below), still_denoted (done ++ pair_of pages p ∷ []) left after on rest);
        },
        walk left (done ++ pair_of pages p ∷ []) after on rest own.1,
      )
    where
      not_so : false ≡ true → ⊥
      not_so e = cc

  all_may : MayPutAll (map (due pages false false) puts ++ commits ∷ []) s
  all_may = walk puts [] s (record { words = refl; coffer = refl; coffers = k.coffers ∙ g.stands.alone.coffers_are; call = k.call; uncommitted = k.uncommitted; told = k.told }) all_are all_own

  pub puts_may : MayPutAll (map (due pages false false) (kind_put ∷ link_puts (page_at mapped.root) place name target) ++ commits ∷ []) s
  puts_may = subst (λ d. MayPutAll (map (due pages false false) (kind_put ∷ link_puts (page_at d) place name target) ++ commits ∷ []) s) dir_is all_may

-- the run of a plan of these stores
pub fill_knows : (mapped : Mapped) (command : Command) (place : Place) (pages : List ℕ) (dir : ℕ) (name : List ℕ) (plan : Plan) (run : Running) → dir ≡ page_at mapped.root → name ≡ name_of command
    → plan.prepares.items ≡ record { at = Drawn (cond (place.free == 0) 1 0) 0; word = Known 1 } ∷ link_puts dir place name (Drawn (cond (place.free == 0) 1 0) 0)
    → plan.commit ≡ put_of (Known place.bucket) (linked_entry place) → plan.after.items ≡ [] → run.left ≡ stores_of pages plan
    → (s : Scene) → Drew mapped command place pages s → StageKnows mapped command (stage.Storing run) Done s
fill_knows mapped command place pages at called plan run dir_is name_is prepares commit after left s k = (refl, subst (λ (l : List Due). MayPutAll l s) (sym (left ∙ are)) (puts_may mapped command place pages s k.lacks.create k))
  where
    are : stores_of pages plan ≡ map (due pages false false) (record { at = Drawn (cond (place.free == 0) 1 0) 0; word = Known 1 } ∷ link_puts (page_at mapped.root) place (name_of command) (Drawn (cond (place.free == 0) 1 0) 0)) ++ due pages true false (put_of (Known place.bucket) (linked_entry place)) ∷ []
    are = (λ i. map (due pages false false) (prepares i) ++ due pages true false (commit i) ∷ map (due pages false true) (after i))
        ∙ (λ i. map (due pages false false) (record { at = Drawn (cond (place.free == 0) 1 0) 0; word = Known 1 } ∷ link_puts (dir_is i) place (name_is i) (Drawn (cond (place.free == 0) 1 0) 0)) ++ due pages true false (put_of (Known place.bucket) (linked_entry place)) ∷ [])
