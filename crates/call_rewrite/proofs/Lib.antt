pub mod StoresRested
pub mod RewriteAnswered
