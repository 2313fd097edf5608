use Rattle.std.proofs.Common.{ap, ◌∙◌, arith}
use Rattle.zo_layout.specs.Layout.{coffer_uid, coffer_gid, coffer_mode, coffer_kind, coffer_control, coffer_root}
use Rattle.kern_model.specs.Journal.{kernel_word}
use Rattle.kern_roots.proofs.ReadingSound.{sound_entry}
use Rattle.kern_roots.proofs.reading.entry.read_root.Goals as goal

pub overflow_cast-result : goal.overflow_cast-result
overflow_cast-result c =
    let entry = sound_entry c.args.words.now c.args.id c.requires.sound c.requires.there in
    let most = entry.uid in
    let size = c.entry_at-entry.ensures.size.most in
    let is = c.read.ensures ∙ ap (kernel_word c.args.words.now) (c.coffer_uid.ensures ∙ ap coffer_uid c.entry_at-entry.ensures.at) in
    omega arith

pub overflow_cast-result-2 : goal.overflow_cast-result-2
overflow_cast-result-2 c =
    let entry = sound_entry c.args.words.now c.args.id c.requires.sound c.requires.there in
    let most = entry.gid in
    let size = c.entry_at-entry.ensures.size.most in
    let is = c.read-2.ensures ∙ ap (kernel_word c.args.words.now) (c.coffer_gid.ensures ∙ ap coffer_gid c.entry_at-entry.ensures.at) in
    omega arith

pub overflow_cast-result-3 : goal.overflow_cast-result-3
overflow_cast-result-3 c =
    let entry = sound_entry c.args.words.now c.args.id c.requires.sound c.requires.there in
    let most = entry.mode in
    let size = c.entry_at-entry.ensures.size.most in
    let is = c.read-3.ensures ∙ ap (kernel_word c.args.words.now) (c.coffer_mode.ensures ∙ ap coffer_mode c.entry_at-entry.ensures.at) in
    omega arith

pub overflow_cast-result-4 : goal.overflow_cast-result-4
overflow_cast-result-4 c =
    let entry = sound_entry c.args.words.now c.args.id c.requires.sound c.requires.there in
    let most = entry.kind in
    let size = c.entry_at-entry.ensures.size.most in
    let is = c.read-5.ensures ∙ ap (kernel_word c.args.words.now) (c.coffer_kind.ensures ∙ ap coffer_kind c.entry_at-entry.ensures.at) in
    omega arith

pub overflow_cast-result-5 : goal.overflow_cast-result-5
overflow_cast-result-5 c =
    let entry = sound_entry c.args.words.now c.args.id c.requires.sound c.requires.there in
    let most = entry.control in
    let size = c.entry_at-entry.ensures.size.most in
    let is = c.read-6.ensures ∙ ap (kernel_word c.args.words.now) (c.coffer_control.ensures ∙ ap coffer_control c.entry_at-entry.ensures.at) in
    omega arith

pub overflow_cast-result-6 : goal.overflow_cast-result-6
overflow_cast-result-6 c =
    let entry = sound_entry c.args.words.now c.args.id c.requires.sound c.requires.there in
    let most = entry.root in
    let size = c.entry_at-entry.ensures.size.most in
    let is = c.read-7.ensures ∙ ap (kernel_word c.args.words.now) (c.coffer_root.ensures ∙ ap coffer_root c.entry_at-entry.ensures.at) in
    omega arith
