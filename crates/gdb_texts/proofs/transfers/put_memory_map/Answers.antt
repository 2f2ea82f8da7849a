use Rattle.std.proofs.Common.{◌∙◌, ◌++◌, ap}
use Rattle.platform.specs.Boards.{numbers_of}
use Rattle.gdb_texts.specs.Stretches.{rams_of}
use Rattle.gdb_texts.specs.Transfers.{block_text, memory_map, rams_text, rom}
use Rattle.gdb_texts.specs.declared.transfers.TheConstants.{MAP_HEAD, MAP_TAIL}
use Rattle.gdb_texts.proofs.Appending.{four_parts}
use Rattle.gdb_texts.proofs.transfers.put_memory_map.Goals as goal

pub returns : goal.returns
unfolding memory_map
returns g c =
    four_parts _ _ _ _ _ MAP_HEAD.now (block_text rom c.args.layout.now.flash_base c.args.layout.now.flash_size)
    (rams_text (rams_of (numbers_of c.args.layout.now) c.args.devices.now)) MAP_TAIL.now
    (c.put_text.ensures.text ∙ ap (λ t. c.args.page.now.items ++ t) c.as_bytes.ensures.value)
    c.put_block.ensures.text
    (c.put_rams.ensures.text
    ∙ ap (λ t. c.put_block.new.page.items ++ rams_text t) (c.as_slice.ensures.value ∙ c.rams_of.ensures.items))
    (c.put_text-2.ensures.text ∙ ap (λ t. c.put_rams.new.page.items ++ t) c.as_bytes-2.ensures.value)
