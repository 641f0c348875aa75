use Rattle.std.proofs.Common.{◌≡◌, ◌∙◌, sym, ap, [], ◌∷◌, ◌++◌}
use Rattle.std.specs.String.{string_bytes}
use Rattle.std.proofs.lemmas.Map.Text.{hash_map_updates_text}
use Rattle.indexmap.specs.IndexMap.{get_by_text}
use Rattle.ecu_mem.specs.Catalogue.{id_of, blocks_after, flashes_after, blocks_with, flashes_with, target_of}
use Rattle.ecu_mem.specs.Index.{entries_in}
use Rattle.ecu_mem.proofs.Indexing.{blocks-append, flashes-append, indexed-more}
use Rattle.ecu_mem.proofs.document.Document.push.Goals as goal

pub returns-clause-indexed : goal.returns-clause-indexed
returns-clause-indexed c =
    let key : string_bytes c.in_ok-key.key ≡ id_of c.args.entry = c.in_ok-key.ensures.ok ∙ (c.as_str.ensures ∙ c.id.ensures) in
    let items : c.push_back.new.self.items ≡ c.args.self.now.entries.items ++ c.args.entry ∷ [] = c.in_ok-push_back.ensures.items in
    record {
      targets = λ id. indexed-more (entries_in c.args.self.now) c.args.entry (get_by_text c.args.self.now.targets) (get_by_text c.insert.new.self) c.args.self.now.blocks c.args.self.now.flashes
          (string_bytes c.in_ok-key.key) c.target_at-target.result c.requires.indexed.targets c.requires.indexed.blocks c.requires.indexed.flashes c.requires.fresh key c.target_at-target.ensures
          (hash_map_updates_text (string_bytes c.in_ok-key.key) c.args.self.now.targets c.insert.new.self _ c.in_ok-insert.ensures.updates) id
          ∙ ap (λ es. target_of es id) (sym items);
      blocks = c.in_ok-blocks.ensures ∙ (ap (λ n. blocks_with n c.args.entry) c.requires.indexed.blocks ∙ (sym (blocks-append 0 c.args.self.now.entries.items c.args.entry) ∙ ap (blocks_after 0) (sym items)));
      flashes = c.in_ok-flashes.ensures ∙ (ap (λ n. flashes_with n c.args.entry) c.requires.indexed.flashes ∙ (sym (flashes-append 0 c.args.self.now.entries.items c.args.entry) ∙ ap (flashes_after 0) (sym items)));
    }
