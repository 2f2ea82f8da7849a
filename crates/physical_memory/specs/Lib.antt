-- The definitions are those of `platform`. Here is when two memories have the same sizes, and the blocks of a
-- `PhysicalMemory`.
pub mod Sizes
pub mod MemoryBlocks
