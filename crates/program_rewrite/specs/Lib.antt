pub mod RewriteText
