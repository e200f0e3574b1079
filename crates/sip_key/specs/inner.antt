pub mod KeyText
