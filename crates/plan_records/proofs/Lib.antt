mod SeekLaws
pub mod InsertLaws
